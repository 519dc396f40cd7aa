use Rattle.std.proofs.Common.{◌≡◌, ◌+◌, ◌-◌, ◌∷◌, ◌++◌, List, ℕ, length, set, ap, ◌∙◌, arith}
use Rattle.std.proofs.lemmas.List.{append_assoc}
use borrow.Rule.Slice.PartMut.{put_mid}
use Rattle.rmt_memory.proofs.RunWriteLaws.{filled, part_size}
use Rattle.rmt_memory.proofs.changes.fill.Goals as goal

pub returns : goal.returns
returns c =
    let first = c.args.first.now in
    let second = c.args.second.now in
    let third = c.args.third.now in
    let a = length first in
    let front = c.split_at_mut-front.result.0.now in
    let front_size : length front ≡ 1 + a + length second = c.split_at_mut-front.ensures.front_len in
    let k = 1 + a - 1 in
    let k_is : k ≡ a = omega arith in
    let inner = put_mid 1 k (set front 0 c.args.head) first in
    let size = part_size c.args.head first front k (omega (arith, front_size)) k_is in
    let whole = ap (λ (xs : List ℕ). put_mid (1 + a) (length (put_mid 1 k (set front 0 c.args.head) xs) - (1 + a)) (put_mid 1 k (set front 0 c.args.head) xs) c.copy_from_slice-2.new.self) c.copy_from_slice.ensures.after
    ∙ ap (λ (xs : List ℕ). put_mid (1 + a) (length inner - (1 + a)) inner xs) c.copy_from_slice-2.ensures.after
    ∙ filled c.args.head first second front k (length inner - (1 + a)) front_size k_is (omega (arith, size, front_size)) in
    ap (λ (xs : List ℕ). xs ++ c.copy_from_slice-3.new.self) whole
    ∙ ap (λ (xs : List ℕ). (c.args.head ∷ (first ++ second)) ++ xs) c.copy_from_slice-3.ensures.after
    ∙ ap (λ (xs : List ℕ). c.args.head ∷ xs) (append_assoc first second third)
