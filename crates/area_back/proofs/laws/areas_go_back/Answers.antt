use Rattle.area_back.proofs.UnchangedLaws.{Laws, unchanged_goes_back}
use Rattle.area_back.proofs.ReadBackLaws.{back_is_read}
use Rattle.area_back.proofs.OneValueLaws.{put_changes_one_value}
use Rattle.area_back.proofs.laws.areas_go_back.Goals as goal

pub returns : goal.returns
returns c =
    let laws : Laws = record {
      tree = record {
        node = c.fields_tell.ensures.node;
        fields = c.fields_tell.ensures.fields;
        list = c.fields_tell.ensures.list;
        nodes = c.fields_tell.ensures.nodes;
        replaced_sound = c.fields_tell.ensures.replaced;
        appended_sound = c.fields_tell.ensures.appended;
        found_sound = c.fields_tell.ensures.found;
        list_sound = c.fields_tell.ensures.list_sound;
      };
      same = c.variables_tell.ensures.same;
      found = c.variables_stay.ensures.put;
      filter = c.variables_tell.ensures.filter;
      tables = c.objects_tell.ensures.tables;
    } in
    record { unchanged = unchanged_goes_back laws; one_value = put_changes_one_value laws; read = back_is_read laws }
