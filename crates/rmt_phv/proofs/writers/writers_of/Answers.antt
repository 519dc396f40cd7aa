use Rattle.std.proofs.Common.{◌≡◌, ◌<◌, ◌||◌, ◌&&◌, ◌++◌, ℕ, List, Bool, eqb, ltb, length, take, drop, get_or, ap, subst, sym, ◌∙◌, refl, arith, Some}
use Rattle.std.specs.Prelude.{slice_get}
use Rattle.std.proofs.Math.Seq.{take-append_seam}
use Rattle.std.proofs.lemmas.Option.{slice_get_read}
use Rattle.rmt_ast.specs.declared.program.Action.{Action}
use Rattle.rmt_phv.specs.Packing.{writes}
use Rattle.rmt_phv.specs.Sets.{has}
use Rattle.rmt_phv.specs.Writers.{assigns}
use Rattle.rmt_phv.proofs.WriterLaws.{one_more, all_of_them}
use Rattle.rmt_phv.proofs.writers.writers_of.Goals as goal

-- a vector whose items were all written
written : (n : ℕ) (items new : List (List ℕ)) → length new ≡ n → take n (new ++ drop (length new) items) ≡ new
written n items new e = ap (λ k. take k (new ++ drop (length new) items)) (sym e) ∙ take-append_seam new (drop (length new) items)

pub loop-number-preserved : goal.loop-number-preserved
loop-number-preserved c =
    let l = c.loop-number in
    let p = c.args.program.now in
    let new = c.add_action.new.sets in
    let old : c.deref_mut.result.now ≡ l.sets.items = c.deref_mut.ensures.value in
    let size : length new ≡ length l.sets.items = c.add_action.auto.sets ∙ ap length old in
    let same : c.as_slice-action-items.result.now ≡ p.actions = c.as_slice-action-items.ensures in
    let a = c.action-item.result in
    let here : slice_get p.actions l.number ≡ Some a =
    subst (λ (xs : List Action). slice_get xs l.number ≡ Some a) same
    (slice_get_read c.as_slice-action-items.result.now (length c.as_slice-action-items.result.now) l.number a refl c.loop-number-test.true c.action-item.is) in
    rw (written l.sets.len l.sets.items new (c.add_action.auto.sets ∙ c.deref_mut.ensures.len))
    record {
      all_there = size ∙ l.invariant.all_there;
      so_far = λ f n d lt.
          let below : f < length l.sets.items = omega (arith, size, lt) in
          c.add_action.ensures f n d (omega (arith, below, ap length old))
          ∙ ap (λ (b : Bool). (eqb n l.number && writes a f) || b) (ap (λ (sets : List (List ℕ)). has (get_or sets f d) n) old ∙ l.invariant.so_far f n d below)
          ∙ one_more p l.number n f a here;
    }

pub returns : goal.returns
returns c =
    let l = c.loop-number in
    let same : c.as_slice-action-items.result.now ≡ c.args.program.now.actions = c.as_slice-action-items.ensures in
    let end : l.number ≡ length c.args.program.now.actions = omega (arith, ap length same) in
    record {
      all_there = l.invariant.all_there;
      each = λ f d lt n. l.invariant.so_far f n d lt ∙ ap (λ k. ltb n k && assigns c.args.program.now n f) end ∙ all_of_them c.args.program.now n f;
    }
