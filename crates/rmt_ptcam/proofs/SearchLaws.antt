-- The first item that passes a test, among items that stand by a number.
use Rattle.std.proofs.Common.{◌≡◌, ◌≢◌, Bool, true, false, cond, ℕ, zero, suc, ◌<◌, ◌≤◌, List, [], ◌∷◌, ◌&&◌, eqb, get_or, length, Some, None, find, refl, sym, ap, subst, ◌∙◌, inl, inr, arith}
use Rattle.std.specs.Prelude.{position, bit_and}
use Rattle.std.specs.List.{position_or_len}
use Rattle.std.specs.List.Sorted.{IsNonDecreasingBy}
use Rattle.std.proofs.lemmas.Bool.{cases_eq, cases_lt, eq-eqb, lt-ltb, le-ltb, and_left, and_from, ne_eqb}
use Rattle.std.proofs.lemmas.Option.{slice_get-get_or, same_Some}
use Rattle.std.proofs.lemmas.List.Sums.{position_or_len_is}
use Rattle.rmt_ptcam.specs.Types.{ParserEntry, TailOf}
use Rattle.rmt_config.specs.declared.config.Next.TheVariants as next
use Rattle.rmt_bits.proofs.ListLaws.{find-none}

-- what was read of a list that is seen again
pub read_again : (es items : List ParserEntry) (n : ℕ) (e : ParserEntry) → e ≡ get_or items n e → items ≡ es → e ≡ get_or es n e
read_again es items n e is same = is ∙ ap (λ (xs : List ParserEntry). get_or xs n e) same

module _ {X : Type 0} (p : X → Bool) where
  -- an item that passes, all before which fail
  pub position_here : (xs : List X) (i : ℕ) (d : X) → i < length xs → ((k : ℕ) → k < i → p (get_or xs k d) ≡ false) → p (get_or xs i d) ≡ true → position p xs ≡ Some i
  position_here xs i d lt fails passes =
      let at : position_or_len p xs ≡ i = position_or_len_is p xs i d (omega (arith, lt)) fails (λ h. passes) in
      rw at (rw (lt-ltb i (length xs) lt) refl)

  -- no item passes
  pub position_nowhere : (xs : List X) (d : X) → ((k : ℕ) → k < length xs → p (get_or xs k d) ≡ false) → position p xs ≡ None
  position_nowhere xs d fails =
      let at : position_or_len p xs ≡ length xs = position_or_len_is p xs (length xs) d (omega arith) fails (λ h. absurd (omega (arith, h))) in
      rw at (rw (le-ltb (length xs) (length xs) (omega arith)) refl)

  pub find_here : (xs : List X) (i : ℕ) (x : X) → i < length xs → ((k : ℕ) (d : X) → k < i → p (get_or xs k d) ≡ false) → x ≡ get_or xs i x → p x ≡ true → find p xs ≡ Some x
  find_here [] i x lt fails is passes = absurd (omega (arith, lt))
  find_here (y ∷ ys) zero x lt fails is passes =
      ap (λ (b : Bool). cond b (Some y) (find p ys)) (subst (λ z. p z ≡ true) is passes) ∙ ap Some (sym is)
  find_here (y ∷ ys) (suc i) x lt fails is passes =
      ap (λ (b : Bool). cond b (Some y) (find p ys)) (fails 0 x (omega arith))
      ∙ find_here ys i x (omega (arith, lt)) (λ k d l. fails (suc k) d (omega (arith, l))) is passes

-- an entry of the state that agrees, all before which fail
module _ (es : List ParserEntry) (state value number : ℕ) (e : ParserEntry) (at : e ≡ get_or es number e)
    (fails : (k : ℕ) (d : ParserEntry) → k < number → (eqb (get_or es k d).state state && eqb (bit_and value (get_or es k d).mask) (get_or es k d).value) ≡ false) where
  abbrev test : ParserEntry → Bool
  test x = eqb x.state state && eqb (bit_and value x.mask) x.value

  pub entry_here : number < length es → e.state ≡ state → bit_and value e.mask ≡ e.value → position test es ≡ Some number
  entry_here lt same agrees =
      position_here test es number e lt (λ k l. fails k e l)
      (subst (λ (x : ParserEntry). test x ≡ true) at (and_from _ _ (eq-eqb e.state state same) (eq-eqb _ e.value agrees)))

  -- one of a later state, behind which no entry of the state is
  pub entry_nowhere : IsNonDecreasingBy (λ (x : ParserEntry). x.state) es → state ≤ e.state → e.state ≢ state → position test es ≡ None
  entry_nowhere by_state least other = position_nowhere test es e (λ k l. elim (cases_lt k number) [
    | inl before ↦ fails k e before
    | inr behind ↦
        let later : (get_or es number e).state ≤ (get_or es k e).state = by_state number k e behind l in
        let mine : e.state ≤ (get_or es k e).state = subst (λ (x : ParserEntry). x.state ≤ (get_or es k e).state) (sym at) later in
        and_left _ _ (ne_eqb (get_or es k e).state state (λ same. other (omega (arith, mine, least, same))))
  ])

-- no entry agrees
pub no_entry : (es : List ParserEntry) (state value : ℕ) → ((k : ℕ) (d : ParserEntry) → k < length es → (eqb (get_or es k d).state state && eqb (bit_and value (get_or es k d).mask) (get_or es k d).value) ≡ false)
    → position (λ (x : ParserEntry). eqb x.state state && eqb (bit_and value x.mask) x.value) es ≡ None
no_entry es state value fails =
    let other : ParserEntry = record { state = 0; value = 0; mask = 0; need = 0; advance = 0; next = next.Reject; extracts = [] } in
    position_nowhere (λ (x : ParserEntry). eqb x.state state && eqb (bit_and value x.mask) x.value) es other (λ k l. fails k other l)

-- the tail of the entry, all before which are of earlier entries
module _ (ts : List TailOf) (entry at : ℕ) (before : (k : ℕ) (d : TailOf) → k < at → (get_or ts k d).entry < entry) where
  pub tail_here : (t : TailOf) → at < length ts → t ≡ get_or ts at t → t.entry ≡ entry → find (λ (x : TailOf). eqb x.entry entry) ts ≡ Some t
  tail_here t lt is same =
      find_here (λ (x : TailOf). eqb x.entry entry) ts at t lt (λ k d l. ne_eqb _ entry (λ e. let h = before k d l in omega (arith, h, e))) is (eq-eqb t.entry entry same)

  -- none where the next is of a later one
  pub tail_nowhere : ((k : ℕ) (d : TailOf) → at ≤ k → k < length ts → entry < (get_or ts k d).entry) → find (λ (x : TailOf). eqb x.entry entry) ts ≡ None
  tail_nowhere behind = find-none (λ (x : TailOf). eqb x.entry entry) ts (λ k d l. ne_eqb _ entry (λ e. elim (cases_lt k at) [
    | inl earlier ↦ let h = before k d earlier in omega (arith, h, e)
    | inr later ↦ let h = behind k d later l in omega (arith, h, e)
  ]))

  -- the same of an item that is read
  pub tail_read : (t d : TailOf) → at < length ts → t ≡ get_or ts at d → t.entry ≡ entry → find (λ (x : TailOf). eqb x.entry entry) ts ≡ Some t
  tail_read t d lt is same =
      tail_here t lt (is ∙ same_Some _ _ (sym (slice_get-get_or ts at d lt) ∙ slice_get-get_or ts at t lt)) same

  -- none where the next is of a later one, among tails by entry
  pub tail_later : IsNonDecreasingBy (λ (x : TailOf). x.entry) ts → ((k : ℕ) (d : TailOf) → at ≤ k → k < length ts → entry ≤ (get_or ts k d).entry) → (t d : TailOf) → at < length ts → t ≡ get_or ts at d → t.entry ≢ entry
      → find (λ (x : TailOf). eqb x.entry entry) ts ≡ None
  tail_later by_entry behind t d lt is other = tail_nowhere (λ k e from l.
      let same : get_or ts at d ≡ get_or ts at e = same_Some _ _ (sym (slice_get-get_or ts at d lt) ∙ slice_get-get_or ts at e lt) in
      let mine : t.entry ≡ (get_or ts at e).entry = ap (λ (x : TailOf). x.entry) (is ∙ same) in
      let least = behind at e (omega arith) lt in
      let later : (get_or ts at e).entry ≤ (get_or ts k e).entry = by_entry at k e from l in
      elim (cases_eq t.entry entry) [
        | inl e ↦ absurd (other e)
        | inr e ↦ omega (arith, mine, least, later, e)
      ])
