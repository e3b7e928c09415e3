-- Lines of refusals at worked examples, by computing.
use Rattle.std.proofs.Common.{◌≡◌, refl}
use Rattle.std.specs.Prelude.{codes}
use Rattle.std.specs.Fmt.{digits}
use Rattle.nwq_text.specs.Escape.{escaped, spelling}
use Rattle.command_work.specs.declared.cause.Cause.TheVariants as cause
use Rattle.gff_bytes.specs.declared.rows.Part.TheVariants as part
use Rattle.command_work.specs.declared.flaw.CodeFlaw.TheVariants as code
use Rattle.command_work.specs.declared.flaw.AreaFlaw.TheVariants as area
use Rattle.command_work.specs.Refusal.{line_of, Absent, TooLong, At, BadCode, BadArea}
use Rattle.command_files.specs.Texts.{disassembled_line, assembled_line}

-- texts
line_of_script : line_of (At (codes "p.nss") 1 28 cause.Mismatch) ≡ codes "refused p.nss 1 28 mismatch\n"
unfolding digits escaped spelling
line_of_script = refl

line_of_header : line_of (At (codes "h.nss") 1 13 cause.Twice) ≡ codes "refused h.nss 1 13 twice\n"
unfolding digits escaped spelling
line_of_header = refl

line_of_absent : line_of (Absent (codes "nope.nss")) ≡ codes "missing nope.nss\n"
unfolding escaped spelling
line_of_absent = refl

line_of_long : line_of (TooLong (codes "a b\\.nss")) ≡ codes "long a b\\\\.nss\n"
unfolding escaped spelling
line_of_long = refl

line_of_code : line_of (BadCode (codes "e.ncs") (code.TypeByte 13)) ≡ codes "refused e.ncs 13 typebyte\n"
unfolding digits escaped spelling
line_of_code = refl

line_of_target : line_of (BadCode (codes "a.txt") (code.LineTarget 1)) ≡ codes "refused a.txt target 1\n"
unfolding digits escaped spelling
line_of_target = refl

line_of_range : line_of (BadArea (codes "a.git") (area.Range part.Index 0)) ≡ codes "refused a.git range index 0\n"
unfolding digits escaped spelling
line_of_range = refl

line_of_shape : line_of (BadArea (codes "a.git") (area.Shape 1 2 3)) ≡ codes "refused a.git shape 1 2 3\n"
unfolding digits escaped spelling
line_of_shape = refl

line_of_disassembly : disassembled_line (codes "a.txt") 3 ≡ codes "disassembled a.txt 3\n"
unfolding digits escaped spelling
line_of_disassembly = refl

line_of_assembly : assembled_line (codes "e.ncs") 13 ≡ codes "assembled e.ncs 13\n"
unfolding digits escaped spelling
line_of_assembly = refl
