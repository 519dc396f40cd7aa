-- What is known of the words: at first, after a piece more, and whether a word serves.
use Rattle.std.proofs.Common.{◌≡◌, ℕ, suc, ◌+◌, ◌-◌, ◌<◌, ◌≤◌, List, [], ◌∷◌, ◌++◌, length, get_or, Bool, true, false, ◌||◌, ◌&&◌, cond, eqb, Some, None, find, replicate, refl, sym, ap, ◌∙◌, inl, inr, arith}
use Rattle.std.specs.Prelude.{slice_get, IsTrue, ◌↔◌}
use Rattle.std.specs.List.{list_any, range_with_len}
use Rattle.std.proofs.lemmas.Bool.{false≢true, eq-eqb, ne_eqb, cases_Bool, and_parts, and_from, false_from_ne_true}
use Rattle.std.proofs.lemmas.List.{get_or-replicate}
use Rattle.std.proofs.lemmas.List.Folds.{list_any-append, list_any_none, list_any_at, Any-from_list_any}
use Rattle.std.proofs.lemmas.List.Sums.{sum_by_push}
use Rattle.std.proofs.lemmas.Option.{slice_get_cases, slice_get-get_or}
use Rattle.rmt_bits.proofs.FunctionLaws.{funext}
use Rattle.rmt_bits.specs.declared.lane.Lane.{Lane}
use Rattle.rmt_ast.specs.declared.program.Program.{Program}
use Rattle.rmt_ast.specs.declared.program.Action.{Action}
use Rattle.rmt_phv.specs.declared.words.Word.{Word}
use Rattle.rmt_phv.specs.Packing.{Piece, pieces_at, writes, holds, free_bit}
use Rattle.rmt_phv.specs.Sets.{has, Meet}
use Rattle.rmt_phv.specs.Writers.{assigns}
use Rattle.rmt_phv.specs.WordsSoFar.{AreFilled, Packs, IsNext}
use Rattle.rmt_phv.proofs.WriterLaws.{has-zeros, assigns_at, assigns_past}

-- a word that nothing stands in
abbrev empty : Word
empty = record { used = 0; writers = 0 ∷ 0 ∷ 0 ∷ 0 ∷ [] }

pub nothing_stands : (p : Program) → AreFilled p [] (replicate 224 empty)
nothing_stands p = record {
  size = refl;
  used = λ w d lt. ap (λ (x : Word). x.used) (get_or-replicate 224 w empty d lt);
  writers = λ w n d lt. ap (λ (x : Word). has x.writers n) (get_or-replicate 224 w empty d lt) ∙ has-zeros 4 n;
}

-- one more piece
abbrev more : List Piece → ℕ → Lane → List Piece
more taken f lane = taken ++ pieces_at f (lane ∷ [])

free_bit_more : (taken : List Piece) (f : ℕ) (lane : Lane) (v : ℕ) → free_bit (more taken f lane) v ≡ free_bit taken v + cond (eqb lane.word v) lane.len 0
free_bit_more taken f lane v = sum_by_push (λ (x : Piece). cond (eqb x.lane.word v) x.lane.len 0) taken (record { field = f; lane = lane })

holds_more : (test : ℕ → Bool) (taken : List Piece) (f : ℕ) (lane : Lane) (v : ℕ) → holds test (more taken f lane) v ≡ (holds test taken v || ((eqb lane.word v && test f) || false))
holds_more test taken f lane v = list_any-append (λ (x : Piece). eqb x.lane.word v && test x.field) taken (pieces_at f (lane ∷ []))

-- the sets of a word and of a field meet where some action assigns the field and one with a piece in the word
pub clash_is : (p : Program) (f : ℕ) (taken : List Piece) (own : List Lane) (writers : List ℕ) (words : List Word) (w : ℕ) (d : Word) (m : Bool)
    → Packs p f taken own writers words → w < 224 → (IsTrue m ↔ Meet (get_or words w d).writers writers)
    → m ≡ list_any (λ (a : Action). writes a f && holds (writes a) taken w) p.actions
clash_is p f taken own writers words w d m packs lt iff =
    elim (cases_Bool (list_any (λ (a : Action). writes a f && holds (writes a) taken w) p.actions)) [
      | inl some ↦ by_action (Any-from_list_any (λ (a : Action). writes a f && holds (writes a) taken w) p.actions some) ∙ sym some
      | inr none ↦ false_from_ne_true m (λ is. by_number none (iff.0 is)) ∙ sym none
    ]
  where
    alike : (n : ℕ) (a : Action) → slice_get p.actions n ≡ Some a → holds (assigns p n) taken w ≡ holds (writes a) taken w
    alike n a here = ap (λ (test : ℕ → Bool). holds test taken w) (funext (assigns p n) (writes a) (λ g. assigns_at p n g a here))

    by_action : (k : ℕ) × (a : Action) × (k < length p.actions) × (get_or p.actions k a ≡ a) × ((writes a f && holds (writes a) taken w) ≡ true) → m ≡ true
    by_action (k, a, below, is, both) =
        let here : slice_get p.actions k ≡ Some a = slice_get-get_or p.actions k a below ∙ ap Some is in
        let parts = and_parts (writes a f) (holds (writes a) taken w) both in
        iff.1 (k, (packs.stands.writers w k d lt ∙ alike k a here ∙ parts.1, packs.writes k ∙ assigns_at p k f a here ∙ parts.0))

    by_number : list_any (λ (a : Action). writes a f && holds (writes a) taken w) p.actions ≡ false → Meet (get_or words w d).writers writers → ⊥
    by_number none (n, both) =
        elim ((slice_get_cases p.actions n).1) [
          | inl (a, below, here, is) ↦
              let assigned : writes a f ≡ true = sym (assigns_at p n f a here) ∙ sym (packs.writes n) ∙ both.1 in
              let held : holds (writes a) taken w ≡ true = sym (alike n a here) ∙ sym (packs.stands.writers w n d lt) ∙ both.0 in
              let pass : (writes (get_or p.actions n a) f && holds (writes (get_or p.actions n a)) taken w) ≡ true =
              ap (λ (x : Action). writes x f && holds (writes x) taken w) is ∙ and_from (writes a f) (holds (writes a) taken w) assigned held in
              false≢true (sym none ∙ list_any_at (λ (x : Action). writes x f && holds (writes x) taken w) p.actions n a below pass)
          | inr (past, none_there) ↦ false≢true (sym (assigns_past p n f past) ∙ sym (packs.writes n) ∙ both.1)
        ]

-- the pieces of a field are at its own lanes
own_is : (f w : ℕ) (own : List Lane) → holds (λ g. eqb g f) (pieces_at f own) w ≡ list_any (λ (l : Lane). eqb l.word w) own
own_is f w [] = refl
own_is f w (l ∷ own) = rw (own_is f w own, eq-eqb f f refl) (ap (λ b. b || list_any (λ (m : Lane). eqb m.word w) own) (and_true (eqb l.word w)))
  where
    and_true : (b : Bool) → (b && true) ≡ b
    and_true true = refl
    and_true false = refl

pub packs_own : (p : Program) (f : ℕ) (taken : List Piece) (own : List Lane) (writers : List ℕ) (before words : List Word)
    → IsNext p f taken writers before → AreFilled p (taken ++ pieces_at f own) words → Packs p f (taken ++ pieces_at f own) own writers words
packs_own p f taken own writers before words next stands = record {
  stands = stands;
  writes = next.writes;
  own_lanes = λ w.
      let apart : holds (λ g. eqb g f) taken w ≡ false = list_any_none (λ (x : Piece). eqb x.lane.word w && eqb x.field f) taken
      (λ k d lt. let x = get_or taken k d in let less : x.field < f = next.earlier k d lt in rw (ne_eqb x.field f (λ e. omega arith)) (none (eqb x.lane.word w))) in
      list_any-append (λ (x : Piece). eqb x.lane.word w && eqb x.field f) taken (pieces_at f own) ∙ rw apart (own_is f w own);
}
  where
    none : (b : Bool) → (b && false) ≡ false
    none true = refl
    none false = refl

-- the first place from a on is a, or the first from the next on
pub find_step : (p : ℕ → Bool) (a n : ℕ) → a < n → find p (range_with_len a (n - a)) ≡ cond (p a) (Some a) (find p (range_with_len (a + 1) (n - (a + 1))))
find_step p a n lt = let e : n - a ≡ suc (n - (a + 1)) = omega arith in rw e refl

-- none is left from the end on
pub find_none : (p : ℕ → Bool) (a n : ℕ) → n ≤ a → find p (range_with_len a (n - a)) ≡ None
find_none p a n le = let e : n - a ≡ 0 = omega arith in rw e refl
