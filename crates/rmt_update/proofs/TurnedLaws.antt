-- What a commit that moves no cell leaves of one.
use Rattle.std.proofs.Common.{◌≡◌, ◌≢◌, ℕ, zero, suc, ◌+◌, ◌-◌, ◌*◌, ◌/◌, ◌%◌, ◌^◌, ◌<◌, Bool, true, false, cond, eqb, Some, refl, sym, ap, ◌∙◌, arith}
use Rattle.std.proofs.lemmas.Bool.{eq-eqb, eqb-true, false≢true}
use Rattle.rmt_config.specs.declared.config.CellNumber.{CellNumber}
use Rattle.rmt_config.specs.Cells.{Content, visible_bits}
use Rattle.rmt_config.specs.Commits.{leaving_content, staying_content, without_bit}
use Rattle.rmt_config.specs.Rooms.{PartAt}
use Rattle.rmt_config.specs.RunCells.{emptied}
use Rattle.rmt_book.specs.declared.kept.Kept.{Kept}
use Rattle.rmt_update.specs.BookStands.{IsKeptOf}
use Rattle.rmt_update.specs.NextKept.{bit_of}
use Rattle.rmt_book.specs.Seen.{is_seen}
use Rattle.rmt_update.proofs.FreeLaws.{seen-bit}

not-one : (n : ℕ) → eqb n 1 ≡ false → n ≢ 1
not-one n f e = false≢true (sym f ∙ eq-eqb n 1 e)

-- ---- heads: s is the parity of the next version

-- what a head of visible bits shows
pub bit-low : (o : Bool) → bit_of o < 4
bit-low true = omega arith
bit-low false = omega arith

pub head-visible : (a d : ℕ) → a < 4 → (1 + 2 * a + 8 * d) / 2 % 4 ≡ a
head-visible a d lt = omega (arith, lt)

-- what a test of a bit leaves, by both its answers
pub by-bit : (n a b : ℕ) (P : ℕ → Type 0) → (n ≡ 1 → P a) → (n ≢ 1 → P b) → P (cond (eqb n 1) a b)
by-bit n a b P one other = by (eqb n 1) refl
  where
    by : (f : Bool) → eqb n 1 ≡ f → P (cond f a b)
    by true e = one (eqb-true n 1 e)
    by false e = other (not-one n e)

-- of a head that is used these visible bits are left, and its code
abbrev Shows : ℕ → ℕ → ℕ → Type 0
Shows head bits left = (left / 2 % 4 ≡ bits) × (left / 8 ≡ head / 8) × (left % 2 ≡ 1)

-- a head with both visible bits
with-both : (s head : ℕ) → s < 2 → head / 2 ^ (2 - s) % 2 ≡ 1 → head % 2 ≡ 1 → Shows head 3 (cond (eqb (head / 2 ^ (1 + s) % 2) 1) head (head + 2 ^ (1 + s)))
with-both zero head lt own used =
    let four : head / 4 % 2 ≡ 1 = own in
    by-bit (head / 2 % 2) head (head + 2) (Shows head 3) (λ two. (omega (arith, two, four), refl, used)) (λ two. (omega (arith, two, four), omega (arith, two, four), omega (arith, used)))
with-both (suc zero) head lt own used =
    let two : head / 2 % 2 ≡ 1 = own in
    by-bit (head / 4 % 2) head (head + 4) (Shows head 3) (λ four. (omega (arith, two, four), refl, used)) (λ four. (omega (arith, two, four), omega (arith, two, four), omega (arith, used)))
with-both (suc (suc s)) head lt own used = absurd (omega (arith, lt))

-- a head with the visible bit of the present version alone
with-own : (s head : ℕ) → s < 2 → head / 2 ^ (2 - s) % 2 ≡ 1 → head % 2 ≡ 1 → Shows head (2 - s) (cond (eqb (head / 2 ^ (1 + s) % 2) 1) (head - 2 ^ (1 + s)) head)
with-own zero head lt own used =
    let four : head / 4 % 2 ≡ 1 = own in
    by-bit (head / 2 % 2) (head - 2) head (Shows head 2) (λ two. (omega (arith, two, four), omega (arith, two, four), omega (arith, two, used))) (λ two. (omega (arith, two, four), refl, used))
with-own (suc zero) head lt own used =
    let two : head / 2 % 2 ≡ 1 = own in
    by-bit (head / 4 % 2) (head - 4) head (Shows head 1) (λ four. (omega (arith, two, four), omega (arith, two, four), omega (arith, four, used))) (λ four. (omega (arith, two, four), refl, used))
with-own (suc (suc s)) head lt own used = absurd (omega (arith, lt))

-- a head without a visible bit, where it had not that of the present version
with-none : (s head : ℕ) → s < 2 → head / 2 ^ (2 - s) % 2 ≢ 1 → cond (eqb (head / 2 ^ (1 + s) % 2) 1) (head - 2 ^ (1 + s)) head / 2 % 4 ≡ 0
with-none zero head lt other =
    let four : head / 4 % 2 ≢ 1 = other in by-bit (head / 2 % 2) (head - 2) head (λ n. n / 2 % 4 ≡ 0) (λ two. omega (arith, two, four)) (λ two. omega (arith, two, four))
with-none (suc zero) head lt other =
    let two : head / 2 % 2 ≢ 1 = other in by-bit (head / 4 % 2) (head - 4) head (λ n. n / 2 % 4 ≡ 0) (λ four. omega (arith, two, four)) (λ four. omega (arith, two, four))
with-none (suc (suc s)) head lt other = absurd (omega (arith, lt))

-- ---- cells

module _ (v seed : ℕ) (odd : Bool) (is : odd ≡ eqb (v % 2) 1) (p : PartAt) (x : Content) (n : CellNumber) (k : Kept) (kept : IsKeptOf seed p x n (Some k)) where
  used : x.head % 2 ≡ 1
  used = eqb-true (x.head % 2) 1 kept.0

  turn : 1 + v % 2 ≡ 2 - (v + 1) % 2
  turn = omega arith

  low : (v + 1) % 2 < 2
  low = omega arith

  own-bit : is_seen odd k ≡ true → x.head / 2 ^ (2 - (v + 1) % 2) % 2 ≡ 1
  own-bit seen = ap (λ i. x.head / 2 ^ i % 2) (sym turn) ∙ eqb-true (x.head / 2 ^ (1 + v % 2) % 2) 1 (sym (seen-bit v odd k x.head is kept.1.visible) ∙ seen)

  no-bit : is_seen odd k ≡ false → x.head / 2 ^ (2 - (v + 1) % 2) % 2 ≢ 1
  no-bit unseen e = not-one (x.head / 2 ^ (1 + v % 2) % 2) (sym (seen-bit v odd k x.head is kept.1.visible) ∙ unseen) (ap (λ i. x.head / 2 ^ i % 2) turn ∙ e)

  -- an entry that stays
  pub stays-kept : is_seen odd k ≡ true → IsKeptOf seed p (staying_content (v + 1) x) n (Some (record k { visible = 3 }))
  stays-kept seen =
      let both = with-both ((v + 1) % 2) x.head low (own-bit seen) used in (
        ap (λ i. eqb i 1) both.2,
        record { cell = kept.1.cell; number = kept.1.number; visible = sym both.0; code = kept.1.code ∙ sym both.1; key = kept.1.key; mask = kept.1.mask; held = kept.1.held },
        kept.2,
        λ e. omega (arith, e),
      )

  -- one that goes
  pub goes-kept : is_seen odd k ≡ true → (leaving_content (v + 1) p.slot x ≡ record x { head = without_bit (v + 1) x.head }) × (eqb (visible_bits (without_bit (v + 1) x.head)) 0 ≡ false)
      × IsKeptOf seed p (record x { head = without_bit (v + 1) x.head }) n (Some (record k { visible = bit_of odd }))
  goes-kept seen =
      let own = with-own ((v + 1) % 2) x.head low (own-bit seen) used in
      let some : eqb (visible_bits (without_bit (v + 1) x.head)) 0 ≡ false = ap (λ i. eqb i 0) own.0 ∙ above ((v + 1) % 2) low in (
        ap (λ b. cond b (emptied p.slot) (record x { head = without_bit (v + 1) x.head })) some,
        some,
        (
          ap (λ i. eqb i 1) own.2,
          record { cell = kept.1.cell; number = kept.1.number; visible = bit-is ∙ sym own.0; code = kept.1.code ∙ sym own.1; key = kept.1.key; mask = kept.1.mask; held = kept.1.held },
          kept.2,
          some-bit odd,
        ),
      )
    where
      above : (s : ℕ) → s < 2 → eqb (2 - s) 0 ≡ false
      above zero lt = refl
      above (suc zero) lt = refl
      above (suc (suc s)) lt = absurd (omega (arith, lt))

      bit-is : bit_of odd ≡ 2 - (v + 1) % 2
      bit-is = ap bit_of is ∙ by (v % 2) (omega arith) ∙ turn
        where
          by : (r : ℕ) → r < 2 → bit_of (eqb r 1) ≡ 1 + r
          by zero lt = refl
          by (suc zero) lt = refl
          by (suc (suc r)) lt = absurd (omega (arith, lt))

      some-bit : (b : Bool) → bit_of b ≢ 0
      some-bit true e = omega (arith, e)
      some-bit false e = omega (arith, e)

  -- one that went before
  pub went-kept : is_seen odd k ≡ false → (leaving_content (v + 1) p.slot x ≡ emptied p.slot) × (eqb (visible_bits (without_bit (v + 1) x.head)) 0 ≡ true)
  went-kept unseen =
      let none = with-none ((v + 1) % 2) x.head low (no-bit unseen) in
      let gone : eqb (visible_bits (without_bit (v + 1) x.head)) 0 ≡ true = ap (λ i. eqb i 0) none in
      (ap (λ b. cond b (emptied p.slot) (record x { head = without_bit (v + 1) x.head })) gone, gone)
