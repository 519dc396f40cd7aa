use Rattle.std.proofs.Common.{◌≡◌, ◌<◌, ℕ, List, length, get_or, ap, sym, ◌∙◌, arith}
use Rattle.rmt_bits.specs.Bits.{bytes_of}
use Rattle.rmt_config.specs.Cells.{blocks_at}
use Rattle.rmt_config.proofs.KeyListLaws.{key-at}
use Rattle.rmt_config.proofs.SpelledKeys.{reached-no, reached-more}
use Rattle.rmt_config.proofs.form.names.key_prints.each_is_new.Goals as goal

pub returns-then-not-branch : goal.returns-then-not-branch
returns-then-not-branch c ks same count =
    let size = c.args.size in
    let i = c.loop-at.at in
    let lt : i < length ks = omega (arith, count, c.loop-at-test.true) in
    let own : c.in_ok-key.key.items ≡ bytes_of size (get_or ks i 0) =
    c.in_ok-key.ensures.items_if_clones_equal (λ x y e. e) ∙ c.key_at.ensures ∙ ap (λ (bs : List ℕ). blocks_at bs size i) same ∙ key-at size ks i lt in
    reached-no size ks i c.loop-at.seen c.in_ok-key.key lt own (c.loop-at.invariant ks same count) (sym c.if-not-branch.true ∙ c.in_ok-insert.ensures.added)

pub loop-at-preserved : goal.loop-at-preserved
loop-at-preserved c ks same count =
    let size = c.args.size in
    let i = c.loop-at.at in
    let lt : i < length ks = omega (arith, count, c.loop-at-test.true) in
    let own : c.in_ok-key.key.items ≡ bytes_of size (get_or ks i 0) =
    c.in_ok-key.ensures.items_if_clones_equal (λ x y e. e) ∙ c.key_at.ensures ∙ ap (λ (bs : List ℕ). blocks_at bs size i) same ∙ key-at size ks i lt in
    reached-more size ks i c.loop-at.seen c.in_ok-key.key lt own (c.loop-at.invariant ks same count) c.insert.new.self (sym c.if-not-branch.false ∙ c.in_ok-insert.ensures.added)
    c.in_ok-insert.ensures.updates
