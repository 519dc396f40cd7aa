use Rattle.std.proofs.Common.{◌≡◌, ◌+◌, ◌++◌, ◌∷◌, [], List, Some, ap, length, refl, sym, take, ◌∙◌, arith}
use Rattle.std.specs.Prelude.{slice_get}
use Rattle.std.specs.List.{flat_map}
use Rattle.std.proofs.lemmas.List.{append-nil, take_all}
use Rattle.std.proofs.lemmas.List.Concat.{flat_map-append}
use Rattle.std.proofs.lemmas.Option.{slice_get_read}
use Rattle.rmt_bits.specs.declared.lane.Lane.{Lane}
use Rattle.rmt_bits.proofs.ListLaws.{take-slice_get}
use Rattle.rmt_verify.proofs.places.all_lanes.Goals as goal

abbrev all : List (List Lane) → List Lane
all places = flat_map (λ (ls : List Lane). ls) places

pub loop-lanes-preserved : goal.loop-lanes-preserved
loop-lanes-preserved c =
    let places : List (List Lane) = c.args.places.now in
    let i = c.loop-lanes.lanes-index in
    let x : List Lane = c.lanes-item.result in
    let there : slice_get places i ≡ Some x = slice_get_read places (length places) i x refl c.loop-lanes-test.true c.lanes-item.is in
    let grown : all (take (i + 1) places) ≡ all (take i places) ++ x =
    ap all (take-slice_get places i x there) ∙ flat_map-append (λ (ls : List Lane). ls) (take i places) (x ∷ []) ∙ ap (λ (ls : List Lane). all (take i places) ++ ls) (append-nil x) in
    c.in_ok-extend_from_slice.ensures.items ∙ ap (λ (ls : List Lane). c.loop-lanes.all.items ++ ls) c.as_slice.ensures ∙ ap (λ (ls : List Lane). ls ++ x) c.loop-lanes.invariant ∙ sym grown

pub returns : goal.returns
returns c =
    c.loop-lanes.invariant ∙ ap (flat_map (λ (ls : List Lane). ls)) (take_all c.loop-lanes.lanes-index c.args.places.now (omega (arith, c.loop-lanes-test.false)))
