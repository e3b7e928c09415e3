use Rattle.std.specs.Prelude.{ℕ, Bool, true, false, List, ◌++◌, map, refl}
use Rattle.std.specs.FinMap as contents
use Rattle.std.specs.Coded.{Coded, code_by, coded×, coded_ℕ, coded_list}
use Rattle.std.specs.BTreeMap.{BTreeMap}
use Rattle.std.specs.Prelude.{String}
use Rattle.std.specs.String.{string_bytes}
use Rattle.nwq_outside.specs.declared.counts.CountOf.TheVariants.{Faults, Absences, Longs}
use Rattle.nwq_outside.specs.declared.counts.FileCounts.{FileCounts}
use Rattle.nwq_outside.specs.Outside.{Held, next, with_next}
use Rattle.nwq_outside.specs.declared.answer.Read.{Read}
use Rattle.nwq_outside.specs.declared.answer.Read.TheVariants.{Bytes, Missing, Failed, Long, NoMemory}
use Rattle.nwq_outside.specs.declared.answer.Done.{Done}
use Rattle.nwq_outside.specs.declared.answer.Done.TheVariants as done

-- files in memory: what they hold, which calls are to fail, how many there were, how many of them
-- were reads, and the counts
pub record Memory : Type 0 where
  pub contents : Held
  pub failing : List ℕ
  pub calls : ℕ
  pub reads : ℕ
  pub counts : FileCounts

-- a value of these files is told from others as the tuple of its fields
abbrev pub memory_code : Coded Memory
memory_code =
    code_by (Held × (List ℕ × (ℕ × (ℕ × (ℕ × (ℕ × ℕ))))))
    (coded× (contents.code (coded_list coded_ℕ) (coded_list coded_ℕ))
    (coded× (coded_list coded_ℕ)
    (coded× coded_ℕ (coded× coded_ℕ (coded× coded_ℕ (coded× coded_ℕ coded_ℕ))))))
    (λ m. (
      m.contents,
      (
        m.failing,
        (m.calls, (m.reads, (m.counts.faults, (m.counts.absences, m.counts.longs)))),
      ),
    ))
    (λ p. record {
      contents = p.0;
      failing = p.1.0;
      calls = p.1.1.0;
      reads = p.1.1.1.0;
      counts = record { faults = p.1.1.1.1.0; absences = p.1.1.1.1.1.0; longs = p.1.1.1.1.1.1 };
    })
    (λ _. refl)

-- the contents that a map from names to bytes stands for
abbrev pub contents_of : {A : Type 0} → BTreeMap (String A) (List ℕ) → Held
contents_of held = contents.from_entries (map (λ e. (string_bytes e.0, e.1)) held.entries)

-- a call was counted, and with it a fault where it was to fail
abbrev pub counted : Memory → Bool → Memory
counted m true = record m { calls = next m.calls; counts = with_next Faults m.counts }
counted m false = record m { calls = next m.calls }

-- files after a read with this answer
abbrev pub after_read : Memory → Read → Memory
after_read m (Bytes bytes) = record m { calls = next m.calls; reads = next m.reads }
after_read m Missing = record m {
  calls = next m.calls;
  reads = next m.reads;
  counts = with_next Absences m.counts;
}
after_read m Failed = record m {
  calls = next m.calls;
  reads = next m.reads;
  counts = with_next Faults m.counts;
}
after_read m Long = record m {
  calls = next m.calls;
  reads = next m.reads;
  counts = with_next Longs m.counts;
}
after_read m NoMemory = record m { calls = next m.calls; reads = next m.reads }

-- files after a write of these bytes with this answer
abbrev pub after_write : Memory → List ℕ → List ℕ → Done → Memory
after_write m name bytes done.Ok = record m {
  calls = next m.calls;
  contents = contents.insert m.contents name bytes;
}
after_write m name bytes done.Failed = counted m true
after_write m name bytes done.NoMemory = counted m false

-- a sink in memory: what it took, which calls are to fail, how many there were, and how many failed
pub record Tape : Type 0 where
  pub taken : List ℕ
  pub failing : List ℕ
  pub calls : ℕ
  pub faults : ℕ

-- a sink after a put of this piece with this answer
abbrev pub after_put : Tape → List ℕ → Done → Tape
after_put t piece done.Ok = record t { calls = next t.calls; taken = t.taken ++ piece }
after_put t piece done.Failed = record t { calls = next t.calls; faults = next t.faults }
after_put t piece done.NoMemory = record t { calls = next t.calls }
