use Rattle.std.proofs.Common.{◌≡◌, ℕ, List, length, set, None, sym, refl, ap, ◌∙◌, subst, arith}
use Rattle.std.proofs.lemmas.List.{with_items_is}
use Rattle.rmt_memory.specs.Slicing.{BitsFor, bit_in}
use Rattle.rmt_memory.proofs.SliceLaws.{put-stands, none-some}
use Rattle.rmt_memory.proofs.sliced.Sliced.hide.Goals as goal

pub returns : goal.returns
returns c =
    let s = c.args.self.now in
    let row = c.args.row in
    let same = c.as_mut_slice.ensures.value in
    let all : length c.set_seen.new.bits ≡ s.bits.len = omega (arith, c.set_seen.ensures.size, ap (λ (bs : List ℕ). length bs) same, s.bits.ok.0) in
    let written = with_items_is s.bits c.set_seen.new.bits all in
    record {
      words = refl;
      width = refl;
      stands = λ sight rows few stands inside.
          subst (BitsFor sight (set rows row None) s.words s.width) (sym written)
          (put-stands sight rows s.words s.width row s.bits.items c.set_seen.new.bits None stands inside
          (λ x is. absurd (none-some x is))
          (c.set_seen.ensures.seen sight few)
          (λ x v is lt. absurd (none-some x is))
          (λ v r lt ne. c.set_seen.ensures.others v r lt (λ le. ne) ∙ ap (λ (bs : List ℕ). bit_in bs s.width v r) same));
    }
