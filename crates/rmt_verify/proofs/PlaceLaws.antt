-- Lanes of fields: their lengths, and how they stand highest bits first.
use Rattle.std.proofs.Common.{◌≡◌, ◌≢◌, ℕ, zero, suc, ◌+◌, ◌-◌, ◌<◌, ◌≤◌, ◌↔◌, List, [], ◌∷◌, ◌++◌, length, take, drop, get_or, map, min, reverse, refl, sym, ap, subst, ◌∙◌, append_assoc, arith}
use Rattle.std.specs.Prelude.{All, Contains}
use Rattle.std.specs.List.{AllZip}
use Rattle.std.proofs.lemmas.List.{append_cancel_left, map-append, take-append-drop, take_more, take_at, get_or-reverse, length-reverse, length-append}
use Rattle.std.proofs.lemmas.List.Elements.{All-contains, All-contains_itself, All-weaker}
use Rattle.std.proofs.lemmas.Grind.{flat_map-append}
use Rattle.std.proofs.Math.Seq.{drop-cons}
use Rattle.rmt_bits.specs.declared.lane.Lane.{Lane}
use Rattle.rmt_bits.proofs.MemberLaws.{Contains-map, Contains-unmap}
use Rattle.rmt_ast.specs.Places.{lanes_of}
use Rattle.rmt_ast.specs.declared.program.Action.{Action}
use Rattle.rmt_ast.specs.declared.program.Assign.{Assign}
use Rattle.rmt_ast.specs.declared.program.Field.{Field}
use Rattle.rmt_phv.specs.Packing.{pieces}
use Rattle.rmt_phv.specs.Places.{WritesApart, high_first, lengths_of}
use Rattle.rmt_phv.proofs.Packed.{pieces_step}
use Rattle.rmt_verify.specs.WrittenApart.{AreApartFrom}
use Rattle.rmt_verify.proofs.SameLaws.{same_more}

-- ---- lengths

abbrev len_of : Lane → ℕ
len_of l = l.len

abbrev lens : List Lane → List ℕ
lens lanes = map len_of lanes

no_lane : Lane
no_lane = record { word = 0; low = 0; len = 0 }

split_at : {A : Type 0} (xs : List A) (i : ℕ) (d : A) → i < length xs → xs ≡ take i xs ++ get_or xs i d ∷ drop (suc i) xs
split_at {A} xs i d lt = sym (take-append-drop i xs) ∙ ap (λ (rest : List A). take i xs ++ rest) (drop-cons xs i d lt)

head_is : (a b : ℕ) (xs ys : List ℕ) → a ∷ xs ≡ b ∷ ys → a ≡ b
head_is a b xs ys e = cc

none_left : (a : ℕ) (xs : List ℕ) → a ∷ xs ≢ []
none_left a xs e = cc

-- what the next lane of a field that is cut so far is
module _ (width left : ℕ) (lanes : List Lane) (i : ℕ) (d : Lane) (lt : i < length lanes) (so_far : pieces width ≡ lens (take i lanes) ++ pieces left) where
  next_is : lens lanes ≡ pieces width → (get_or lanes i d).len ∷ lens (drop (suc i) lanes) ≡ pieces left
  next_is all =
      let split : lens lanes ≡ lens (take i lanes) ++ (get_or lanes i d).len ∷ lens (drop (suc i) lanes) =
      ap lens (split_at lanes i d lt) ∙ map-append len_of (take i lanes) (get_or lanes i d ∷ drop (suc i) lanes) in
      append_cancel_left (lens (take i lanes)) _ _ (sym split ∙ all ∙ so_far)

  pub some_left : lens lanes ≡ pieces width → 0 < left
  some_left all = by left (next_is all)
    where
      by : (n : ℕ) → (get_or lanes i d).len ∷ lens (drop (suc i) lanes) ≡ pieces n → 0 < n
      by zero e = absurd (none_left _ _ e)
      by (suc n) e = omega arith

  pub next_len : lens lanes ≡ pieces width → (get_or lanes i d).len ≡ min left 32
  next_len all = head_is _ _ _ _ (next_is all ∙ pieces_step left (some_left all))

  pub cut_more : 0 < left → (get_or lanes i d).len ≡ min left 32 → pieces width ≡ lens (take (i + 1) lanes) ++ pieces (left - (get_or lanes i d).len)
  cut_more some is =
      let step : pieces left ≡ (get_or lanes i d).len ∷ pieces (left - (get_or lanes i d).len) = pieces_step left some ∙ ap (λ (n : ℕ). n ∷ pieces (left - n)) (sym is) in
      let front : lens (take (i + 1) lanes) ≡ lens (take i lanes) ++ (get_or lanes i d).len ∷ [] = ap lens (take_more lanes i d lt) ∙ map-append len_of (take i lanes) (get_or lanes i d ∷ []) in
      so_far ∙ ap (λ (rest : List ℕ). lens (take i lanes) ++ rest) step
      ∙ sym (append_assoc (lens (take i lanes)) ((get_or lanes i d).len ∷ []) (pieces (left - (get_or lanes i d).len)))
      ∙ ap (λ (f : List ℕ). f ++ pieces (left - (get_or lanes i d).len)) (sym front)

abbrev pub CutAs : Field → List Lane → Type 0
CutAs f ls = map (λ (l : Lane). l.len) ls ≡ pieces f.width

abbrev pieces_of : Field → List ℕ
pieces_of f = pieces f.width

-- all fields are cut where each is
pub cut_zip : (fields : List Field) (places : List (List Lane)) → AllZip CutAs fields places ↔ (lengths_of places ≡ map (λ (f : Field). pieces f.width) fields)
cut_zip [] [] = (λ all. refl, λ e. tt)
cut_zip [] (ls ∷ places) = (λ all. absurd all, λ e. absurd cc)
cut_zip (f ∷ fields) [] = (λ all. absurd all, λ e. absurd cc)
cut_zip (f ∷ fields) (ls ∷ places) =
    let rest = cut_zip fields places in
    (λ all. both (lens ls) (pieces f.width) (lengths_of places) (map pieces_of fields) all.0 (rest.0 all.1), λ e. (let p = parts (lens ls) (pieces f.width) (lengths_of places) (map pieces_of fields) e in (p.0, rest.1 p.1)))
  where
    both : (a b : List ℕ) (xs ys : List (List ℕ)) → a ≡ b → xs ≡ ys → a ∷ xs ≡ b ∷ ys
    both a b xs ys e g = cc

    parts : (a b : List ℕ) (xs ys : List (List ℕ)) → a ∷ xs ≡ b ∷ ys → (a ≡ b) × (xs ≡ ys)
    parts a b xs ys e = (cc, cc)

-- ---- highest bits first

pub reversed_more : (xs ys : List Lane) (i : ℕ) (d : Lane) → length xs ≡ length ys → i < length xs → take i xs ≡ take i (reverse ys) → get_or xs i d ≡ get_or ys (length ys - 1 - i) d
    → take (i + 1) xs ≡ take (i + 1) (reverse ys)
reversed_more xs ys i d len lt so_far item =
    let within : i < length ys = omega (arith, len, lt) in
    same_more xs (reverse ys) i d lt (omega (arith, within, length-reverse ys)) so_far (item ∙ sym (get_or-reverse ys i d within))

-- what is left where the lanes of some fields were taken off
pub high_rest : (places : List (List Lane)) (fields : List ℕ) (i : ℕ) (f : ℕ) (lanes rest : List Lane) → i < length fields → f ≡ get_or fields i 0
    → lanes ≡ high_first places (take i fields) ++ rest → lanes ≡ high_first places fields → (more : List Lane) × (rest ≡ reverse (lanes_of places f) ++ more)
high_rest places fields i f lanes rest lt is so_far all =
    let g : ℕ → List Lane = λ n. reverse (lanes_of places n) in
    let split : high_first places fields ≡ high_first places (take i fields) ++ high_first places (get_or fields i 0 ∷ drop (suc i) fields) =
    ap (high_first places) (split_at fields i 0 lt) ∙ flat_map-append g (take i fields) (get_or fields i 0 ∷ drop (suc i) fields) in
    let left : rest ≡ high_first places (get_or fields i 0 ∷ drop (suc i) fields) = append_cancel_left (high_first places (take i fields)) _ _ (sym so_far ∙ all ∙ split) in
    (high_first places (drop (suc i) fields), left ∙ ap (λ (n : ℕ). g n ++ high_first places (drop (suc i) fields)) (sym is))

-- so it has at least the lanes of the next field, and they stand first in it
pub rest_long : (rest own more : List Lane) → rest ≡ reverse own ++ more → length own ≤ length rest
rest_long rest own more e = omega (arith, ap length e, length-append (reverse own) more, length-reverse own)

pub rest_front : (rest own more : List Lane) → rest ≡ reverse own ++ more → take (length own) rest ≡ reverse own
rest_front rest own more e = ap (take (length own)) e ∙ take_at (reverse own) more (length own) (length-reverse own)

-- ---- fields that one action writes

pub written_each : (places : List (List Lane)) (a : Action) → All (λ (x : Assign). All (λ (y : Assign). AreApartFrom places x.dest y.dest) a.assigns) a.assigns ↔ WritesApart places a
written_each places a = (to, from)
  where
    to : All (λ (x : Assign). All (λ (y : Assign). AreApartFrom places x.dest y.dest) a.assigns) a.assigns → WritesApart places a
    to all f g at_f at_g =
        let x = Contains-unmap (λ (x : Assign). x.dest) a.assigns f at_f in
        let y = Contains-unmap (λ (x : Assign). x.dest) a.assigns g at_g in
        let one = All-contains (λ (x : Assign). All (λ (y : Assign). AreApartFrom places x.dest y.dest) a.assigns) a.assigns x.0 all x.1 in
        let two : AreApartFrom places x.0.dest y.0.dest = All-contains (λ (y : Assign). AreApartFrom places x.0.dest y.dest) a.assigns y.0 one y.1 in
        subst (λ (n : ℕ). AreApartFrom places n g) x.2 (subst (λ (n : ℕ). AreApartFrom places x.0.dest n) y.2 two)

    from : WritesApart places a → All (λ (x : Assign). All (λ (y : Assign). AreApartFrom places x.dest y.dest) a.assigns) a.assigns
    from apart =
        All-weaker (Contains a.assigns) (λ (x : Assign). All (λ (y : Assign). AreApartFrom places x.dest y.dest) a.assigns)
        (λ x at_x. All-weaker (Contains a.assigns) (λ (y : Assign). AreApartFrom places x.dest y.dest)
        (λ y at_y. apart x.dest y.dest (Contains-map (λ (x : Assign). x.dest) a.assigns x at_x) (Contains-map (λ (x : Assign). x.dest) a.assigns y at_y)) a.assigns (All-contains_itself a.assigns))
        a.assigns (All-contains_itself a.assigns)
