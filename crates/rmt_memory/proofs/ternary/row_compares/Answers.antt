use Rattle.std.proofs.Common.{◌≡◌, ℕ, List, [], ◌∷◌, ◌++◌, ◌+◌, ◌<◌, length, map, take, get_or, sym, ap, ◌∙◌, arith}
use Rattle.std.proofs.lemmas.List.{map-append, take_all, take_more}
use Rattle.rmt_memory.specs.Types.{TcamRow}
use Rattle.rmt_config.specs.Cells.{tcam_row}
use Rattle.rmt_memory.proofs.ternary.row_compares.Goals as goal

next : (f : ℕ → ℕ) (xs old new : List ℕ) (i v : ℕ) → i < length xs → old ≡ map f (take i xs) → v ≡ f (get_or xs i 0) → new ≡ old ++ v ∷ [] → new ≡ map f (take (i + 1) xs)
next f xs old new i v lt was value now =
    now ∙ ap (λ (ys : List ℕ). ys ++ v ∷ []) was ∙ ap (λ y. map f (take i xs) ++ y ∷ []) value
    ∙ sym (ap (map f) (take_more xs i 0 lt) ∙ map-append f (take i xs) (get_or xs i 0 ∷ []))

pub loop-block-preserved : goal.loop-block-preserved
loop-block-preserved c =
    let rows = c.args.rows.now in
    let row = c.args.row in
    let i = c.loop-block.block-index in
    let blocks = c.args.blocks.now in
    let lt : i < length blocks = omega arith in
    record {
      masks = next (λ b. tcam_row (λ (t : TcamRow). t.mask) rows b row) blocks _ _ i _ lt c.loop-block.invariant.masks (c.from.ensures ∙ c.row_compared-bits.ensures.mask) c.in_ok-push.ensures.items;
      values = next (λ b. tcam_row (λ (t : TcamRow). t.value) rows b row) blocks _ _ i _ lt c.loop-block.invariant.values (c.from-in-loop-block.ensures ∙ c.row_compared-bits.ensures.value) c.in_ok-push-2.ensures.items;
    }

pub returns-clause-masks : goal.returns-clause-masks
returns-clause-masks c =
    c.loop-block.invariant.masks
    ∙ ap (map (λ b. tcam_row (λ (t : TcamRow). t.mask) c.args.rows.now b c.args.row)) (take_all c.loop-block.block-index c.args.blocks.now (omega arith))

pub returns-clause-values : goal.returns-clause-values
returns-clause-values c =
    c.loop-block.invariant.values
    ∙ ap (map (λ b. tcam_row (λ (t : TcamRow). t.value) c.args.rows.now b c.args.row)) (take_all c.loop-block.block-index c.args.blocks.now (omega arith))
