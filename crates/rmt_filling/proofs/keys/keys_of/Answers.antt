use Rattle.std.proofs.Common.{◌≡◌, ◌<◌, ◌≤◌, ◌∙◌, ◌++◌, [], ◌∷◌, ℕ, List, false, All, ap, get_or, length, map, subst, sum, sym, take}
use Rattle.std.proofs.lemmas.List.{map-append, take_more}
use Rattle.rmt_bits.specs.Bits.{bytes_of}
use Rattle.rmt_ast.specs.declared.entry.Entry.{Entry}
use Rattle.rmt_ast.specs.State.{width_of}
use Rattle.rmt_config.specs.BlockCounts.{divided_up}
use Rattle.rmt_config.specs.Rooms.{mask_or_value, tests_as_one}
use Rattle.rmt_filling.specs.Types.{Test}
use Rattle.rmt_filling.proofs.KeyLaws.{widths_narrow}
use Rattle.rmt_filling.proofs.keys.keys_of.Goals as goal

pub widths_of-requires : goal.widths_of-requires
widths_of-requires c = subst (All (λ f. f < length c.args.program.now.fields)) (sym c.as_slice.ensures) c.requires.table.key_fields

pub tests_bytes-requires-clause-narrow : goal.tests_bytes-requires-clause-narrow
tests_bytes-requires-clause-narrow c =
    let same : c.as_slice-in-loop-entry.result.now ≡ map (width_of c.args.program.now) c.args.table.now.key =
    c.as_slice-in-loop-entry.ensures ∙ c.in_ok-widths.ensures ∙ ap (map (width_of c.args.program.now)) c.as_slice.ensures in
    subst (All (λ w. w ≤ 128)) (sym same) (widths_narrow c.args.program.now c.requires.program c.args.table.now.key c.requires.table.key_fields)

pub tests_bytes-requires-clause-few : goal.tests_bytes-requires-clause-few
tests_bytes-requires-clause-few c =
    let same : c.as_slice-in-loop-entry.result.now ≡ map (width_of c.args.program.now) c.args.table.now.key =
    c.as_slice-in-loop-entry.ensures ∙ c.in_ok-widths.ensures ∙ ap (map (width_of c.args.program.now)) c.as_slice.ensures in
    subst (λ ws. sum ws ≤ 640) (sym same) c.requires.table.key_bits

pub loop-entry-preserved : goal.loop-entry-preserved
loop-entry-preserved c =
    let ws = map (width_of c.args.program.now) c.args.table.now.key in
    let es = c.args.entries.now in
    let i = c.loop-entry.entry-index in
    let e = c.entry-item.result in
    let of : List ℕ → List Test → List ℕ = λ us ts. bytes_of (divided_up (sum us) 8) (tests_as_one (mask_or_value false) us ts) in
    let f : Entry → List ℕ = λ o. of ws o.tests in
    let same : c.as_slice-in-loop-entry.result.now ≡ ws = c.as_slice-in-loop-entry.ensures ∙ c.in_ok-widths.ensures ∙ ap (map (width_of c.args.program.now)) c.as_slice.ensures in
    let key : c.in_ok-key.key.items ≡ f e =
    c.in_ok-key.ensures.bytes ∙ ap (λ us. of us c.as_slice-in-loop-entry-2.result.now) same ∙ ap (of ws) c.as_slice-in-loop-entry-2.ensures in
    c.in_ok-push.ensures.ok ∙ ap (λ k. c.loop-entry.keys ++ k ∷ []) (c.from_vec.ensures ∙ key ∙ ap f c.entry-item.is)
    ∙ ap (λ ks. ks ++ f (get_or es i e) ∷ []) c.loop-entry.invariant
    ∙ sym (map-append f (take i es) (get_or es i e ∷ [])) ∙ sym (ap (map f) (take_more es i e c.loop-entry-test.true))
