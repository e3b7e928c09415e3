-- What is told of the rules of the state of a play.
use Rattle.std.specs.Prelude.{ℕ, ◌==◌, if◌then◌else◌, List, ◌++◌, codes, Option, None, Some}

-- the sentence for each rule, by its number
unfoldable pub rule_text : ℕ → List ℕ
rule_text n =
    if n == 1 then codes "the header of the state has no table" else
    if n == 2 then codes "a script of the state is no code, or isn't well stacked under its header"
    else
    if n == 3 then codes "the area of the state is none, or has another number of objects" else
    if n == 4 then codes "a number of the state passes its limit, a name is none or stands twice, "
    ++ codes "or a text is too long" else
    if n == 5 then codes "the entries of the agenda can't wait so: "
    ++ codes "their order, numbers, times or objects" else
    if n == 6 then codes "a captured state of a script doesn't fit its script" else
    if n == 7 then codes "the busy objects of the state and the Turns of its agenda "
    ++ codes "don't go together" else codes "?"

-- what is told of the broken rule whose number was read
abbrev pub unfit_text : Option ℕ → List ℕ
unfit_text None = codes "?"
unfit_text (Some n) = rule_text n
