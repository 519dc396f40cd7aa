use Rattle.std.proofs.Common.{◌≡◌, ◌++◌, ◌-◌, ◌<◌, ◌∷◌, [], List, ℕ, Option, Some, None, Result, min, refl, subst, ap, sym, ◌∙◌, arith}
use Rattle.rmt_bits.specs.declared.lane.Lane.{Lane}
use Rattle.rmt_ast.specs.declared.program.Program.{Program}
use Rattle.rmt_phv.specs.Packing.{Piece, lanes_for, pieces, pieces_at}
use Rattle.rmt_phv.specs.WordsSoFar.{AreFilled, Packs, IsNext, lanes_or_fault}
use Rattle.rmt_phv.proofs.WordLaws.{packs_own}
use Rattle.rmt_phv.proofs.Packed.{then, pieces_push, pieces_step, piece_more, piece_none, pieces_end}
use Rattle.rmt_phv.proofs.pack.place_field.Goals as goal

none_is : (o : Option Lane) → ((x : Lane) → o ≡ Some x → ⊥) → o ≡ None
none_is None other = refl
none_is (Some x) other = absurd (other x refl)

-- what is left begins with the next piece
next : (p : Program) (f : ℕ) (taken : List Piece) (own : List Lane) (left len : ℕ) (total : Result (List Lane) ℕ) → 0 < left → len ≡ min left 32
    → total ≡ then own (lanes_for p f (taken ++ pieces_at f own) (pieces left)) → total ≡ then own (lanes_for p f (taken ++ pieces_at f own) (len ∷ pieces (left - len)))
next p f taken own left len total pos is so_far =
    so_far ∙ ap (λ (ps : List ℕ). then own (lanes_for p f (taken ++ pieces_at f own) ps)) (pieces_step left pos ∙ ap (λ (n : ℕ). n ∷ pieces (left - n)) (sym is))

pub returns-in_default-clause-placed : goal.returns-in_default-clause-placed
returns-in_default-clause-placed c = λ _ p taken first.
    let l = c.loop-left in
    let f = c.args.field in
    let len = c.min-len.result in
    let none : c.take.result ≡ None = none_is c.take.result c.in_default.not-Some in
    let packs : Packs p f (taken ++ pieces_at f l.own) c.as_slice.result.now c.args.writers.now l.words.words =
    subst (λ (own : List Lane). Packs p f (taken ++ pieces_at f l.own) own c.args.writers.now l.words.words) (sym c.as_slice.ensures)
    (packs_own p f taken l.own c.args.writers.now c.args.words.now.words l.words.words first (l.invariant.stand p taken first)) in
    let here = next p f taken l.own l.left len (lanes_for p f taken (pieces c.args.width)) c.loop-left-test.true c.min-len.ensures (l.invariant.so_far p taken first) in
    let failed = piece_none p f taken l.own len (pieces (l.left - len)) (lanes_for p f taken (pieces c.args.width)) here
    (sym none ∙ c.take.ensures.lane p f (taken ++ pieces_at f l.own) packs) in
    rw (failed, c.class_of-class.ensures) refl

pub loop-left-preserved : goal.loop-left-preserved
loop-left-preserved c =
    let l = c.loop-left in
    let f = c.args.field in
    let len = c.min-len.result in
    let lane = c.in-Some.lane in
    let pushed : c.push.new.self ≡ l.own ++ lane ∷ [] = c.in_ok-push.ensures.ok in
    let packs : (p : Program) (taken : List Piece) → IsNext p f taken c.args.writers.now c.args.words.now.words → Packs p f (taken ++ pieces_at f l.own) c.as_slice.result.now c.args.writers.now l.words.words =
    λ p taken first. subst (λ (own : List Lane). Packs p f (taken ++ pieces_at f l.own) own c.args.writers.now l.words.words) (sym c.as_slice.ensures)
    (packs_own p f taken l.own c.args.writers.now c.args.words.now.words l.words.words first (l.invariant.stand p taken first)) in
    record {
      stand = λ p taken first.
          subst (λ (own : List Lane). AreFilled p (taken ++ pieces_at f own) c.take.new.self.words) (sym pushed)
          (subst (λ (all : List Piece). AreFilled p all c.take.new.self.words) (pieces_push taken f l.own lane) (c.in-Some.ensures.taken p f (taken ++ pieces_at f l.own) (packs p taken first)));
      so_far = λ p taken first.
          let here = next p f taken l.own l.left len (lanes_for p f taken (pieces c.args.width)) c.loop-left-test.true c.min-len.ensures (l.invariant.so_far p taken first) in
          piece_more p f taken l.own len (pieces (l.left - len)) (lanes_for p f taken (pieces c.args.width)) here lane (c.in-Some.ensures.lane p f (taken ++ pieces_at f l.own) (packs p taken first))
          ∙ ap (λ (own : List Lane). then own (lanes_for p f (taken ++ pieces_at f own) (pieces (l.left - len)))) (sym pushed);
    }

pub returns-clause-placed : goal.returns-clause-placed
returns-clause-placed c = λ _ p taken first.
    let l = c.loop-left in
    let f = c.args.field in
    let none : l.left ≡ 0 = omega arith in
    let all = l.invariant.so_far p taken first ∙ ap (λ (left : ℕ). then l.own (lanes_for p f (taken ++ pieces_at f l.own) (pieces left))) none in
    sym (ap (lanes_or_fault f) (pieces_end p f l.own (taken ++ pieces_at f l.own) (lanes_for p f taken (pieces c.args.width)) all))
