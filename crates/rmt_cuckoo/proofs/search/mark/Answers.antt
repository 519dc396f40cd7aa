use Rattle.std.proofs.Common.{refl, ◌≡◌, ℕ, ◌<◌, ◌∷◌, [], ◌++◌, Bool, true, false, List, length, get_or, subst, sym, ap, ◌∙◌, arith}
use Rattle.std.proofs.lemmas.List.{get_or_default}
use Rattle.std.proofs.lemmas.List.Elements.{Contains-get_or}
use Rattle.std.proofs.lemmas.Bool.{false≢true}
use Rattle.rmt_cuckoo.specs.declared.search.Step.{Step}
use Rattle.rmt_cuckoo.specs.Search.{Grows, IsSeen}
use Rattle.rmt_cuckoo.proofs.SearchLaws.{grows_more, all_seen_more, all_seen_still}
use Rattle.rmt_cuckoo.proofs.search.mark.Goals as goal
use Rattle.rmt_cuckoo.proofs.search.mark.Goals.{then-not-index+in_ok-push, else-not-index}

-- a mark that was read as false is not seen
read_false : (seen : List Bool) (c : ℕ) (read : Bool) → read ≡ get_or seen c read → read ≡ false → IsSeen seen c → ⊥
read_false seen c read is none seen_there =
    false≢true (sym none ∙ is ∙ ap (get_or seen c) none ∙ seen_there)

read_true : (seen : List Bool) (c : ℕ) (read : Bool) → c < length seen → read ≡ get_or seen c read → read ≡ true → IsSeen seen c
read_true seen c read lt is some = get_or_default seen c false read lt ∙ sym is ∙ some

pub loop-cell-preserved : goal.loop-cell-preserved
loop-cell-preserved c =
    let row = c.args.row.now in
    let i = c.loop-cell.cell-index in
    let cell = get_or row i 0 in
    let inside : cell < length c.loop-cell.seen.items = omega (arith, c.requires.within i 0 c.loop-cell-test.true, c.loop-cell.invariant.grows.size) in
    elim c.if-not-index.branch [
      | then-not-index+in_ok-push w ↦
          let s : Step = record { cell = cell; from = c.args.place } in
          let steps = ap (λ v. v.items) w.steps-is ∙ w.in_ok-push.ensures.items in
          let seen = ap (λ v. v.items) w.seen-is in
          record {
            grows = subst (λ (xs : List Step). Grows c.args.place row c.args.steps.now.items c.args.seen.now.items xs c.if-not-index.seen.items) (sym steps)
                (subst (λ (bs : List Bool). Grows c.args.place row c.args.steps.now.items c.args.seen.now.items (c.loop-cell.steps.items ++ s ∷ []) bs) (sym seen)
                (grows_more c.args.place row c.args.steps.now.items c.args.seen.now.items c.loop-cell.steps.items c.loop-cell.seen.items s refl inside
                (Contains-get_or row i 0 c.loop-cell-test.true)
                (read_false c.loop-cell.seen.items cell c.index.result.now c.index.ensures w.if-not-index.true)
                c.loop-cell.invariant.grows));
            all = λ k below.
                subst (λ (bs : List Bool). IsSeen bs (get_or row k 0)) (sym seen)
                (all_seen_more row c.loop-cell.seen.items i cell refl inside c.loop-cell.invariant.all k below);
          }
      | else-not-index w ↦
          let steps = ap (λ v. v.items) w.steps-is in
          let seen = ap (λ v. v.items) w.seen-is in
          record {
            grows = subst (λ (xs : List Step). Grows c.args.place row c.args.steps.now.items c.args.seen.now.items xs c.if-not-index.seen.items) (sym steps)
                (subst (λ (bs : List Bool). Grows c.args.place row c.args.steps.now.items c.args.seen.now.items c.loop-cell.steps.items bs) (sym seen)
                c.loop-cell.invariant.grows);
            all = λ k below.
                subst (λ (bs : List Bool). IsSeen bs (get_or row k 0)) (sym seen)
                (all_seen_still row c.loop-cell.seen.items i cell refl
                (read_true c.loop-cell.seen.items cell c.index.result.now inside c.index.ensures w.if-not-index.false) c.loop-cell.invariant.all k below);
          }
    ]

pub returns-clause-all : goal.returns-clause-all
returns-clause-all c = λ k d lt. subst (IsSeen c.loop-cell.seen.items) (get_or_default c.args.row.now k 0 d lt) (c.loop-cell.invariant.all k (omega arith))
