-- A joined parser parses alike.
use Rattle.std.proofs.Common.{◌≡◌, cond, nat_lt, Bool, true, ℕ, ◌+◌, ◌-◌, ◌*◌, ◌<◌, ◌≤◌, List, ◌++◌, length, map, take, drop, fold, Option, Some, None, refl, sym, ap, subst, ◌∙◌, inl, inr, arith}
use Rattle.std.specs.Prelude.{All, IfSome, option_map}
use Rattle.std.proofs.lemmas.Bool.{cases_lt, lt-ltb, le-ltb}
use Rattle.std.proofs.lemmas.List.{drop-drop}
use Rattle.std.proofs.Math.Seq.{take-add}
use Rattle.rmt_bits.specs.Bits.{bits_of_bytes}
use Rattle.rmt_bits.proofs.AllLaws.{All-from_test}
use Rattle.rmt_bits.proofs.ByteLaws.{AreBytes}
use Rattle.rmt_ptcam.specs.Types.{ParserState, ParserEntry, TailOf}
use Rattle.rmt_config.specs.Parser.{Parse, Reached, Short, behind, extracted, follow, past_length, past_tail, step, tail_length}
use Rattle.rmt_config.specs.ParserForm.{extract_is_formed}
use Rattle.rmt_ptcam.specs.Joining.{Row, joined_entry, moved}
use Rattle.rmt_ptcam.proofs.AgreementLaws.{window_bytes, length_window}
use Rattle.rmt_ptcam.proofs.FormedRows.{IsFormed, IsRow}
use Rattle.rmt_ptcam.proofs.TailForms.{IsRowTail}
use Rattle.rmt_ptcam.proofs.WindowLaws.{bits_back, fold_both}

-- ---- two steps in one

abbrev moved_tail : ℕ → Option TailOf → Option TailOf
moved_tail bytes o = option_map (λ (t : TailOf). record t { from = t.from + 8 * bytes }) o

module _ (here there : List ℕ) (states : List ParserState) (e : ParserEntry) (y : Row) (formed_e : IsFormed states e) (formed : IsRow states y) (whole : e.need ≡ e.advance)
    (frame : List ℕ) (small : All (λ b. b < 256) frame) (r : Reached) where
  abbrev f : ParserEntry
  f = y.entry

  abbrev je : ParserEntry
  je = joined_entry here there e f

  abbrev first : List ℕ
  first = take e.need (drop r.at frame)

  abbrev second : List ℕ
  second = take f.need (drop (r.at + e.advance) frame)

  abbrev wide : List ℕ
  wide = take (e.need + f.need) (drop r.at frame)

  windows : wide ≡ first ++ second
  windows =
      take-add e.need f.need (drop r.at frame)
      ∙ ap (λ (xs : List ℕ). first ++ take f.need xs) (drop-drop e.need r.at frame)
      ∙ ap (λ k. first ++ take f.need (drop (r.at + k) frame)) whole

  abbrev between : Reached
  between = behind first e r

  -- both windows lie in the frame
  module _ (inside : r.at + e.advance + f.need ≤ length frame) where
    front_size : length first ≡ e.advance
    front_size = length_window frame r.at e.need (omega (arith, inside, whole)) ∙ whole

    back_size : length second ≡ f.need
    back_size = length_window frame (r.at + e.advance) f.need inside

    bytes : AreBytes second
    bytes = window_bytes frame (r.at + e.advance) f.need small

    vectors : fold (extracted wide) r.vector (e.extracts ++ map (moved e.advance) f.extracts) ≡ fold (extracted second) (fold (extracted first) r.vector e.extracts) f.extracts
    vectors =
        let long : e.need ≡ length first = whole ∙ sym front_size in
        let xs : All (λ x. extract_is_formed (length first) x ≡ true) e.extracts =
        subst (λ n. All (λ x. extract_is_formed n x ≡ true) e.extracts) long (All-from_test (λ x. extract_is_formed e.need x ≡ true) (extract_is_formed e.need) (λ x is. is) e.extracts formed_e.extracts) in
        let ys : All (λ x. extract_is_formed (length second) x ≡ true) f.extracts =
        subst (λ n. All (λ x. extract_is_formed n x ≡ true) f.extracts) (sym back_size) (All-from_test (λ x. extract_is_formed f.need x ≡ true) (extract_is_formed f.need) (λ x is. is) f.extracts formed.entry.extracts) in
        ap (λ (w : List ℕ). fold (extracted w) r.vector (e.extracts ++ map (moved e.advance) f.extracts)) windows
        ∙ ap (λ n. fold (extracted (first ++ second)) r.vector (e.extracts ++ map (moved n) f.extracts)) (sym front_size)
        ∙ fold_both first second bytes e.extracts f.extracts r.vector xs ys

    reached : behind wide je r ≡ behind second f between
    reached =
        let at : r.at + (e.advance + f.advance) ≡ r.at + e.advance + f.advance = omega arith in
        ap (λ (v : List ℕ). record r { vector = v; at = r.at + (e.advance + f.advance) }) vectors
        ∙ ap (λ n. record r { vector = fold (extracted second) (fold (extracted first) r.vector e.extracts) f.extracts; at = n }) at

    -- the same bits tell the tail's length
    past_same : (g : Reached → Parse) (left : ℕ) (o : Option TailOf) (q : Reached) → IfSome o (IsRowTail f) → past_tail g wide left (moved_tail e.advance o) q ≡ past_tail g second left o q
    past_same g left None q fits = refl
    past_same g left (Some t) q fits =
        let within : t.from + t.len ≤ 8 * length second = let a = fits.within in omega (arith, a, back_size) in
        ap (λ x. past_length g left t.header (tail_length x t.unit t.base) q)
        (ap (λ (w : List ℕ). bits_of_bytes w (t.from + 8 * e.advance) t.len) windows
        ∙ ap (λ n. bits_of_bytes (first ++ second) (t.from + 8 * n) t.len) (sym front_size)
        ∙ bits_back first second bytes t.from t.len within)

  -- the joined entry does what the two do
  pub two_steps : (goes others : ℕ → Reached → Parse) → follow goes f.next ≡ follow others f.next
      → step goes frame (moved_tail e.advance y.tail) (Some je) r ≡ cond (nat_lt (length frame) (r.at + e.need)) Short (step others frame y.tail (Some f) between)
  two_steps goes others same =
      let later : Parse = past_tail (follow goes f.next) wide (length frame - (r.at + (e.need + f.need))) (moved_tail e.advance y.tail) (behind wide je r) in
      let then : Parse = past_tail (follow others f.next) second (length frame - (r.at + e.advance + f.need)) y.tail (behind second f between) in
      elim (cases_lt (length frame) (r.at + (e.need + f.need))) [
        | inl cut ↦
            ap (λ (b : Bool). cond b Short later) (lt-ltb (length frame) (r.at + (e.need + f.need)) cut)
            ∙ elim (cases_lt (length frame) (r.at + e.need)) [
              | inl early ↦ sym (ap (λ (b : Bool). cond b Short (step others frame y.tail (Some f) between)) (lt-ltb (length frame) (r.at + e.need) early))
              | inr enough ↦
                  sym (ap (λ (b : Bool). cond b Short (step others frame y.tail (Some f) between)) (le-ltb (length frame) (r.at + e.need) enough)
                  ∙ ap (λ (b : Bool). cond b Short then) (lt-ltb (length frame) (r.at + e.advance + f.need) (omega (arith, cut, whole))))
            ]
        | inr fits ↦
            let inside : r.at + e.advance + f.need ≤ length frame = omega (arith, fits, whole) in
            let left : length frame - (r.at + (e.need + f.need)) ≡ length frame - (r.at + e.advance + f.need) = omega (arith, whole) in
            ap (λ (b : Bool). cond b Short later) (le-ltb (length frame) (r.at + (e.need + f.need)) fits)
            ∙ ap (λ (g : Reached → Parse). past_tail g wide (length frame - (r.at + (e.need + f.need))) (moved_tail e.advance y.tail) (behind wide je r)) same
            ∙ ap (λ n. past_tail (follow others f.next) wide n (moved_tail e.advance y.tail) (behind wide je r)) left
            ∙ past_same inside (follow others f.next) (length frame - (r.at + e.advance + f.need)) y.tail (behind wide je r) formed.tail
            ∙ ap (λ (q : Reached). past_tail (follow others f.next) second (length frame - (r.at + e.advance + f.need)) y.tail q) (reached inside)
            ∙ sym (ap (λ (b : Bool). cond b Short (step others frame y.tail (Some f) between)) (le-ltb (length frame) (r.at + e.need) (omega (arith, fits)))
            ∙ ap (λ (b : Bool). cond b Short then) (le-ltb (length frame) (r.at + e.advance + f.need) inside))
      ]
