use Rattle.std.proofs.Common.{◌≡◌, ℕ, ◌+◌, ◌<◌, Bool, true, false, List, length, get_or, take, replicate, slice_set, sym, ap, subst, ◌∙◌, arith, rules}
use Rattle.std.proofs.lemmas.List.{take_more, take_all, length-set, with_items_is}
use Rattle.rmt_ast.specs.declared.entry.Entry.{Entry}
use Rattle.rmt_ast.specs.declared.program.Test.{Test}
use Rattle.rmt_plain.specs.Grouping.{AreMarks, slot_for, values_of}
use Rattle.rmt_plain.specs.Marks.{slot_of, slots_for, total_of}
use Rattle.rmt_plain.proofs.MarkLaws.{no_marks, marks_push}
use Rattle.rmt_plain.proofs.marks.marks_of.Goals as goal

pub loop-at-init : goal.loop-at-init
loop-at-init c =
    let slots = slots_for (length c.args.entries.now) in
    subst (AreMarks slots (take 0 c.args.entries.now))
    (sym (c.in_ok-marks.ensures.items_if_clones_equal (λ y h. search rules) ∙ ap (λ (n : ℕ). replicate n false) c.saturating_mul.ensures)) (no_marks slots)

pub loop-at-preserved : goal.loop-at-preserved
loop-at-preserved c =
    let es = c.args.entries.now in
    let i = c.loop-at.at in
    let e = get_or es i c.index-entries-at.result in
    let old = c.loop-at.marks.items in
    let slots = slots_for (length es) in
    let inside : i < length es = omega arith in
    let wants : c.total.result ≡ total_of (values_of e.tests) =
    c.total.ensures ∙ ap total_of (c.deref.ensures.value ∙ c.in_ok-values.ensures ∙ ap (λ (ts : List Test). values_of ts) c.as_slice.ensures) in
    let marks : c.mark.new.marks ≡ slice_set old (slot_for slots e) true =
    c.mark.ensures ∙ ap (λ (xs : List Bool). slice_set xs (slot_of (length xs) c.total.result) true) c.deref_mut.ensures.value
    ∙ ap (λ (t : ℕ). slice_set old (slot_of (length old) t) true) wants
    ∙ ap (λ (n : ℕ). slice_set old (slot_for n e) true) c.loop-at.invariant.slots_are in
    let size : length c.mark.new.marks ≡ c.loop-at.marks.len =
    ap (λ (xs : List Bool). length xs) marks ∙ length-set old (slot_for slots e) true ∙ omega (arith, c.loop-at.marks.ok.0) in
    subst (AreMarks slots (take (i + 1) es)) (sym (with_items_is c.loop-at.marks c.mark.new.marks size ∙ marks))
    (subst (λ (xs : List Entry). AreMarks slots xs (slice_set old (slot_for slots e) true)) (sym (take_more es i c.index-entries-at.result inside))
    (marks_push slots (take i es) e old c.loop-at.invariant))

pub returns : goal.returns
returns c =
    let es = c.args.entries.now in
    subst (λ (xs : List Entry). AreMarks (slots_for (length es)) xs c.loop-at.marks.items) (take_all c.loop-at.at es (omega arith)) c.loop-at.invariant
