use Rattle.std.proofs.Common.{◌≡◌, ◌<◌, ◌∙◌, ◌∷◌, ◌++◌, [], List, Option, Some, None, drop, length, slice_get, option_to_list, ap, sym, arith}
use Rattle.delay_agenda.proofs.LineLemmas.{line_taken, queues_less}
use Rattle.delay_agenda.proofs.sorted.Sorted.take.Goals as goal

pub invariant_of-self : goal.invariant_of-self
invariant_of-self g c =
    let line = c.self.inside.line.items in
    let queues = c.self.inside.queues.entries in
    let first = c.if-line_is_first.ensures.first in
    (line_taken line c.pop_front.new.self.items queues c.self.inside.turns c.args.self.now c.self.invariant c.self.view_is first c.pop_front.ensures.rest).2

pub returns-then-line_is_first-clause-left : goal.returns-then-line_is_first-clause-left
returns-then-line_is_first-clause-left g c =
    let line = c.self.inside.line.items in
    let queues = c.self.inside.queues.entries in
    let first = c.if-line_is_first.ensures.first in
    (line_taken line c.pop_front.new.self.items queues c.self.inside.turns c.args.self.now c.self.invariant c.self.view_is first c.pop_front.ensures.rest).1

pub returns-clause-entry : goal.returns-clause-entry
returns-clause-entry g c =
    let line = c.self.inside.line.items in
    let queues = c.self.inside.queues.entries in
    let first = c.if-line_is_first.ensures.first in
    c.take_indexed.ensures.entry
    ∙ (queues_less line queues c.take_indexed.new.queues.entries c.self.inside.turns c.take_indexed.new.index c.args.self.now c.self.invariant c.self.view_is first
    c.take_indexed.ensures.queues c.take_indexed.ensures.indexed c.take_indexed.ensures.left).0

pub returns-clause-left : goal.returns-clause-left
returns-clause-left g c =
    let line = c.self.inside.line.items in
    let queues = c.self.inside.queues.entries in
    let first = c.if-line_is_first.ensures.first in
    (queues_less line queues c.take_indexed.new.queues.entries c.self.inside.turns c.take_indexed.new.index c.args.self.now c.self.invariant c.self.view_is first
    c.take_indexed.ensures.queues c.take_indexed.ensures.indexed c.take_indexed.ensures.left).1

pub invariant_of-self-2 : goal.invariant_of-self-2
invariant_of-self-2 g c =
    let line = c.self.inside.line.items in
    let queues = c.self.inside.queues.entries in
    let first = c.if-line_is_first.ensures.first in
    (queues_less line queues c.take_indexed.new.queues.entries c.self.inside.turns c.take_indexed.new.index c.args.self.now c.self.invariant c.self.view_is first
    c.take_indexed.ensures.queues c.take_indexed.ensures.indexed c.take_indexed.ensures.left).2

-- the first of the line is what came off
popped : {X : Type 0} (e : Option X) (es now : List X) → es ≡ option_to_list e ++ now → now ≡ drop 1 es → 0 < length es → e ≡ slice_get es 0
popped None [] now is rest some = absurd (omega (arith, some))
popped None (x ∷ xs) now is rest some = let long = ap length (is ∙ rest) in absurd (omega (arith, long))
popped (Some y) es now is rest some = sym (ap (λ t. slice_get t 0) is)

pub returns-then-line_is_first-clause-entry : goal.returns-then-line_is_first-clause-entry
returns-then-line_is_first-clause-entry g c =
    let line = c.self.inside.line.items in
    let queues = c.self.inside.queues.entries in
    let first = c.if-line_is_first.ensures.first in
    popped c.pop_front.result line c.pop_front.new.self.items c.pop_front.ensures.items c.pop_front.ensures.rest first.least.inside
    ∙ (line_taken line c.pop_front.new.self.items queues c.self.inside.turns c.args.self.now c.self.invariant c.self.view_is first c.pop_front.ensures.rest).0
