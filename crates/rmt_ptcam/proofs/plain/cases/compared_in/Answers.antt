use Rattle.std.proofs.Common.{◌≡◌, ℕ, List, length, map, replicate, fold, ap, ◌∙◌, arith}
use Rattle.std.specs.List.{zip}
use Rattle.std.proofs.lemmas.Grind.{common_steps}
use Rattle.std.proofs.lemmas.List.{length-replicate}
use Rattle.rmt_bits.specs.Bits.{number_of}
use Rattle.rmt_ptcam.specs.Types.{Test}
use Rattle.rmt_ptcam.specs.Plain.{with_field}
use Rattle.rmt_ptcam.proofs.PlainLaws.{looked_up_is}
use Rattle.rmt_ptcam.proofs.plain.cases.compared_in.Goals as goal

pub returns-clause-value : goal.returns-clause-value
returns-clause-value c =
    let p = c.args.program.now in
    let h = c.args.header.now in
    let xs = map (λ (t : Test). t.value) c.args.tests.now in
    let whole : c.as_slice.result.now ≡ c.put_tests.new.values = grind (arith, common_steps) in
    let start : c.as_mut_slice.result.now ≡ replicate h.bytes 0 = c.as_mut_slice.ensures.value ∙ c.in_ok-values.ensures.items_if_clones_equal (λ y e. e) ∙ ap (λ n. replicate n 0) c.from-bytes.ensures in
    let long : length c.as_slice.result.now ≡ h.bytes = ap length whole ∙ c.put_tests.ensures.as_many_values ∙ ap length start ∙ length-replicate {A = ℕ} h.bytes 0 in
    looked_up_is p h xs c.as_slice.result.now c.args.state.now c.lookup_in.result long c.requires.state
    (ap number_of whole ∙ c.put_tests.ensures.values ∙ ap (λ (b : List ℕ). fold (with_field p h) (number_of b) (zip h.select xs)) start) c.lookup_in.ensures

pub returns-clause-mask : goal.returns-clause-mask
returns-clause-mask c =
    let p = c.args.program.now in
    let h = c.args.header.now in
    let xs = map (λ (t : Test). t.mask) c.args.tests.now in
    let whole : c.as_slice-2.result.now ≡ c.put_tests.new.masks = grind (arith, common_steps) in
    let start : c.as_mut_slice-2.result.now ≡ replicate h.bytes 0 = c.as_mut_slice-2.ensures.value ∙ c.in_ok-masks.ensures.items_if_clones_equal (λ y e. e) ∙ ap (λ n. replicate n 0) c.from-bytes.ensures in
    let long : length c.as_slice-2.result.now ≡ h.bytes = ap length whole ∙ c.put_tests.ensures.as_many_masks ∙ ap length start ∙ length-replicate {A = ℕ} h.bytes 0 in
    looked_up_is p h xs c.as_slice-2.result.now c.args.state.now c.lookup_in-2.result long c.requires.state
    (ap number_of whole ∙ c.put_tests.ensures.masks ∙ ap (λ (b : List ℕ). fold (with_field p h) (number_of b) (zip h.select xs)) start) c.lookup_in-2.ensures
