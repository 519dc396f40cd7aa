use Rattle.std.proofs.Common.{◌≡◌, ℕ, List, length, replicate, ap, ◌∙◌, arith, rules}
use Rattle.std.specs.Prelude.{slice_set}
use Rattle.std.proofs.lemmas.List.{with_items_is}
use Rattle.rmt_plain.proofs.WalkLaws.{begin_is}
use Rattle.rmt_plain.proofs.walk.begin.Goals as goal

pub returns : goal.returns
returns c =
    let p = c.args.program.now in
    let zeros : c.in_ok-state.state.items ≡ replicate (length p.fields) 0 =
    c.in_ok-state.ensures.items_if_clones_equal (λ y h. search rules) ∙ ap (λ (n : ℕ). replicate n 0) c.len.ensures in
    let put = c.put_at.ensures ∙ ap (λ (s : List ℕ). slice_set s 0 c.from.result) (c.deref_mut.ensures.value ∙ zeros) ∙ ap (slice_set (replicate (length p.fields) 0) 0) c.from.ensures in
    let size : length c.put_at.new.items ≡ c.in_ok-state.state.len = omega (arith, c.put_at.auto.items, c.deref_mut.ensures.len) in
    λ frame. begin_is p c.args.port frame _ _
    (with_items_is c.in_ok-state.state c.put_at.new.items size ∙ put)
    (c.in_ok-tails.ensures.items_if_clones_equal (λ y h. search rules) ∙ ap (λ (n : ℕ). replicate n (record { from = 0; len = 0 })) c.len-2.ensures)
