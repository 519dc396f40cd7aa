use Rattle.std.proofs.Common.{◌≡◌, ℕ, List, length, set, cond, Bool, true, false, Option, Some, None, sym, refl, ap, ◌∙◌, subst, arith}
use Rattle.std.specs.Prelude.{is_some}
use Rattle.std.proofs.lemmas.List.{with_items_is}
use Rattle.std.proofs.lemmas.Option.{cond_some}
use Rattle.rmt_bits.specs.Grouping.{Compared}
use Rattle.rmt_memory.specs.Sights.{seen_by}
use Rattle.rmt_memory.specs.Slicing.{BitsFor, RowFits, bit_if, bit_in, leaves}
use Rattle.rmt_memory.proofs.SliceLaws.{put-stands}
use Rattle.rmt_memory.proofs.sliced.Sliced.put.Goals as goal

there-if : (b : Bool) (e : Compared) → is_some (cond b (Some e) None) ≡ b
there-if true e = refl
there-if false e = refl

pub returns : goal.returns
returns c =
    let s = c.args.self.now in
    let row = c.args.row in
    let e : Compared = record { masks = c.args.masks.now; values = c.args.values.now } in
    let shown : ℕ → Option Compared = λ sight. cond (seen_by sight c.args.head) (Some e) None in
    let same = c.as_mut_slice-bits.ensures.value in
    let all : length c.set_seen.new.bits ≡ s.bits.len = omega (arith, c.set_seen.ensures.size, c.set_row.ensures.size, ap (λ (bs : List ℕ). length bs) same, s.bits.ok.0) in
    let written = with_items_is s.bits c.set_seen.new.bits all in
    record {
      words = refl;
      width = refl;
      stands = λ sight rows few stands inside.
          subst (BitsFor sight (set rows row (shown sight)) s.words s.width) (sym written)
          (put-stands sight rows s.words s.width row s.bits.items c.set_seen.new.bits (shown sight) stands inside
          (λ x is. subst (RowFits s.words) (cond_some (seen_by sight c.args.head) e x is).1 c.requires.fits)
          (c.set_seen.ensures.seen sight few ∙ ap bit_if (sym (there-if (seen_by sight c.args.head) e)))
          (λ x v is lt.
          c.set_seen.ensures.others v row c.requires.row (λ le. absurd (omega (arith, le, lt))) ∙ c.set_row.ensures.leaves v lt
          ∙ ap (λ (y : Compared). bit_if (leaves y v)) (cond_some (seen_by sight c.args.head) e x is).1)
          (λ v r lt ne.
          c.set_seen.ensures.others v r lt (λ le. ne) ∙ c.set_row.ensures.others v r lt ne ∙ ap (λ (bs : List ℕ). bit_in bs s.width v r) same));
    }
