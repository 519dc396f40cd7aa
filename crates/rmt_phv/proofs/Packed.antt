-- One more piece of a field, and one more field.
use Rattle.std.proofs.Common.{◌≡◌, ℕ, suc, ◌+◌, ◌-◌, ◌/◌, ◌%◌, ◌<◌, ◌≤◌, min, List, [], ◌∷◌, ◌++◌, Bool, cond, Option, Some, None, Result, Ok, Err, length, refl, sym, ap, ◌∙◌, inl, inr, append_assoc, arith}
use Rattle.std.proofs.lemmas.Bool.{cases_lt, ne_eqb}
use Rattle.std.proofs.lemmas.List.{append-nil, map-append}
use Rattle.std.proofs.Math.Nat.{mod-eq-sub-mod}
use Rattle.std.specs.Prelude.{All}
use Rattle.std.proofs.lemmas.List.Elements.{All-nil, All-append, All-map, All-weaker}
use Rattle.rmt_bits.specs.declared.lane.Lane.{Lane}
use Rattle.rmt_ast.specs.declared.program.Program.{Program}
use Rattle.rmt_ast.specs.declared.program.Field.{Field}
use Rattle.rmt_phv.specs.declared.fault.PhvFull.{PhvFull}
use Rattle.rmt_phv.specs.Packing.{Piece, map_ok, pieces, pieces_at, lane_for, lanes_for, lane_then, field_then, places_from}
use Rattle.rmt_phv.specs.WordsSoFar.{lanes_or_fault}

-- what stands, and then the rest
abbrev pub then : {A E : Type 0} → List A → Result (List A) E → Result (List A) E
then front r = map_ok (λ rest. front ++ rest) r

then_push : {A E : Type 0} (front : List A) (x : A) (r : Result (List A) E) → then front (map_ok (λ rest. x ∷ rest) r) ≡ then (front ++ x ∷ []) r
then_push front x (Ok rest) = ap Ok (sym (append_assoc front (x ∷ []) rest))
then_push front x (Err e) = refl

-- one piece more of a field
pub pieces_push : (taken : List Piece) (f : ℕ) (own : List Lane) (lane : Lane) → (taken ++ pieces_at f own) ++ pieces_at f (lane ∷ []) ≡ taken ++ pieces_at f (own ++ lane ∷ [])
pieces_push taken f own lane =
    append_assoc taken (pieces_at f own) (pieces_at f (lane ∷ []))
    ∙ ap (λ (ps : List Piece). taken ++ ps) (sym (map-append (λ (l : Lane). let x : Piece = record { field = f; lane = l } in x) own (lane ∷ [])))

-- a field of 32 bits and more begins with a piece of 32
pieces_more : (width : ℕ) → 32 ≤ width → pieces width ≡ 32 ∷ pieces (width - 32)
pieces_more width le = rw (quotient, mod-eq-sub-mod le) refl
  where
    quotient : width / 32 ≡ suc ((width - 32) / 32)
    quotient = omega arith

pieces_last : (width : ℕ) → 0 < width → width < 32 → pieces width ≡ width ∷ []
pieces_last width pos lt =
    let quotient : width / 32 ≡ 0 = omega arith in
    let rest : width % 32 ≡ width = omega arith in
    rw (quotient, rest) (ap (λ (none : Bool). cond none [] (width ∷ [])) (ne_eqb width 0 (λ e. omega arith)))

-- the next piece of a width, and what is left
pub pieces_step : (width : ℕ) → 0 < width → pieces width ≡ min width 32 ∷ pieces (width - min width 32)
pieces_step width pos =
    elim (cases_lt width 32) [
      | inl lt ↦
          let least : min width 32 ≡ width = omega arith in
          let none : width - width ≡ 0 = omega arith in
          rw (least, none) (pieces_last width pos lt)
      | inr le ↦ let least : min width 32 ≡ 32 = omega arith in rw least (pieces_more width le)
    ]

module _ (p : Program) (f : ℕ) (taken : List Piece) (own : List Lane) (len : ℕ) (lens : List ℕ) (total : Result (List Lane) ℕ) (so_far : total ≡ then own (lanes_for p f (taken ++ pieces_at f own) (len ∷ lens))) where
  -- a piece that finds a word
  pub piece_more : (lane : Lane) → Some lane ≡ lane_for p f (taken ++ pieces_at f own) len → total ≡ then (own ++ lane ∷ []) (lanes_for p f (taken ++ pieces_at f (own ++ lane ∷ [])) lens)
  piece_more lane is =
      let step : lanes_for p f (taken ++ pieces_at f own) (len ∷ lens) ≡ map_ok (λ rest. lane ∷ rest) (lanes_for p f ((taken ++ pieces_at f own) ++ pieces_at f (lane ∷ [])) lens) =
      ap (λ (o : Option Lane). lane_then len o (λ l. lanes_for p f ((taken ++ pieces_at f own) ++ pieces_at f (l ∷ [])) lens)) (sym is) in
      so_far ∙ ap (then own) step ∙ then_push own lane (lanes_for p f ((taken ++ pieces_at f own) ++ pieces_at f (lane ∷ [])) lens)
      ∙ ap (λ (stand : List Piece). then (own ++ lane ∷ []) (lanes_for p f stand lens)) (pieces_push taken f own lane)

  -- one that finds none
  pub piece_none : None ≡ lane_for p f (taken ++ pieces_at f own) len → total ≡ Err len
  piece_none is =
      so_far ∙ ap (then own) (ap (λ (o : Option Lane). lane_then len o (λ l. lanes_for p f ((taken ++ pieces_at f own) ++ pieces_at f (l ∷ [])) lens)) (sym is))

-- no piece is left
pub pieces_end : (p : Program) (f : ℕ) (own : List Lane) (stand : List Piece) (total : Result (List Lane) ℕ) → total ≡ then own (lanes_for p f stand []) → total ≡ Ok own
pieces_end p f own stand total so_far = so_far ∙ ap Ok (append-nil own)

told_ok : (n : ℕ) (r : Result (List Lane) ℕ) (own : List Lane) → Ok own ≡ lanes_or_fault n r → r ≡ Ok own
told_ok n (Ok x) own e = cc
told_ok n (Err x) own e = absurd cc

module _ (p : Program) (n : ℕ) (taken : List Piece) (places : List (List Lane)) (x : Field) (xs : List Field) (total : Result (List (List Lane)) PhvFull) (so_far : total ≡ then places (places_from p n taken (x ∷ xs))) where
  -- a field whose pieces find words
  pub field_more : (own : List Lane) → Ok own ≡ lanes_or_fault n (lanes_for p n taken (pieces x.width)) → total ≡ then (places ++ own ∷ []) (places_from p (n + 1) (taken ++ pieces_at n own) xs)
  field_more own is =
      let step : places_from p n taken (x ∷ xs) ≡ map_ok (λ rest. own ∷ rest) (places_from p (n + 1) (taken ++ pieces_at n own) xs) =
      ap (λ (r : Result (List Lane) ℕ). field_then n r (λ o. places_from p (n + 1) (taken ++ pieces_at n o) xs)) (told_ok n (lanes_for p n taken (pieces x.width)) own is) in
      so_far ∙ ap (then places) step ∙ then_push places own (places_from p (n + 1) (taken ++ pieces_at n own) xs)

  -- one with a piece that finds none
  pub field_none : (fault : PhvFull) → Err fault ≡ lanes_or_fault n (lanes_for p n taken (pieces x.width)) → total ≡ Err fault
  field_none fault is =
      so_far ∙ ap (then places) (stops (lanes_for p n taken (pieces x.width)) (λ o. places_from p (n + 1) (taken ++ pieces_at n o) xs) is)
    where
      stops : (r : Result (List Lane) ℕ) (rest : List Lane → Result (List (List Lane)) PhvFull) → Err fault ≡ lanes_or_fault n r → field_then n r rest ≡ Err fault
      stops (Ok own) rest e = absurd cc
      stops (Err piece) rest e = cc

-- the pieces of some fields, the first of which has the number n
abbrev pub pieces_of : ℕ → List (List Lane) → List Piece
pieces_of n [] = []
pieces_of n (own ∷ places) = pieces_at n own ++ pieces_of (n + 1) places

-- those of one field more
pub pieces_of_push : (n : ℕ) (places : List (List Lane)) (own : List Lane) → pieces_of n (places ++ own ∷ []) ≡ pieces_of n places ++ pieces_at (n + length places) own
pieces_of_push n [] own = append-nil (pieces_at n own) ∙ ap (λ k. pieces_at k own) (add-zero_back n)
  where
    add-zero_back : (n : ℕ) → n ≡ n + 0
    add-zero_back n = omega arith
pieces_of_push n (first ∷ places) own =
    let number : (n + 1) + length places ≡ n + suc (length places) = omega arith in
    ap (λ (rest : List Piece). pieces_at n first ++ rest) (pieces_of_push (n + 1) places own ∙ ap (λ k. pieces_of (n + 1) places ++ pieces_at k own) number)
    ∙ sym (append_assoc (pieces_at n first) (pieces_of (n + 1) places) (pieces_at (n + suc (length places)) own))

-- they are of the fields from n on
pub pieces_of_below : (n : ℕ) (places : List (List Lane)) → All (λ (x : Piece). x.field < n + length places) (pieces_of n places)
pieces_of_below n [] = All-nil (λ (x : Piece). x.field < n + 0)
pieces_of_below n (own ∷ places) =
    All-append (λ (x : Piece). x.field < n + suc (length places)) (pieces_at n own) (pieces_of (n + 1) places)
    (All-map (λ (x : Piece). x.field < n + suc (length places)) (λ (l : Lane). let x : Piece = record { field = n; lane = l } in x) own (λ k d lt. omega arith))
    (All-weaker (λ (x : Piece). x.field < (n + 1) + length places) (λ (x : Piece). x.field < n + suc (length places)) (λ x lt. omega (arith, lt)) (pieces_of (n + 1) places) (pieces_of_below (n + 1) places))
