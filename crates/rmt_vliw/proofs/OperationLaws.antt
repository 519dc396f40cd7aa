-- The operations of an instruction, each by its value and its piece.
use Rattle.std.proofs.Common.{◌≡◌, ℕ, zero, suc, ◌+◌, ◌<◌, Bool, true, false, cond, List, [], ◌∷◌, get_or, take, length, map, Some, refl, sym, ap, ◌∙◌, subst, inl, inr, ⊎_elim, arith}
use Rattle.std.specs.Prelude.{◌==◌, All, Contains, find}
use Rattle.std.proofs.lemmas.Bool.{cases_Bool, cases_eq, cases_order, both_ways, eq-eqb, eqb-true}
use Rattle.std.proofs.lemmas.List.{length-map, get_or-map}
use Rattle.std.proofs.lemmas.List.Elements.{All-head, All-tail, All-weaker, Contains-get_or}
use Rattle.std.proofs.lemmas.List.Sorted.{All-permutation, Contains-permutation}
use Rattle.rmt_bits.proofs.AllLaws.{All-flat_map}
use Rattle.rmt_bits.specs.Bits.{deposit}
use Rattle.rmt_bits.specs.declared.lane.Lane.{Lane}
use Rattle.rmt_vliw.specs.Types.{Program, Assign, Expr, Operation}
use Rattle.rmt_ast.specs.declared.program.Expr.TheVariants.{One, Two}
use Rattle.rmt_ast.specs.Places.{lanes_of}
use Rattle.rmt_ast.specs.WellFormed.{AreDistinct}
use Rattle.rmt_phv.specs.Places.{KeepsApart}
use Rattle.rmt_config.specs.CodeForm.{lane_of_operation}
use Rattle.rmt_config.specs.Life.{Words, source_of, computed, written, op_on}
use Rattle.rmt_vliw.specs.declared.piece.Piece.{Piece}
use Rattle.rmt_vliw.specs.Operations.{operation_for, operations_from, operations_for, operations_of, IsInstruction}
use Rattle.rmt_vliw.proofs.PieceLaws.{begins, piece_of}
use Rattle.rmt_vliw.proofs.ValueLaws.{AreFolded, one_value}
use Rattle.rmt_config.proofs.HeldLaws.{bits_of_lanes-cons}
use Rattle.rmt_bits.proofs.MemberLaws.{Contains-later, Contains-flat_map}

-- ---- look-ups

contains_later : {X : Type 0} (test : X → Bool) (y : X) (ys : List X) (x : X) (k : ℕ) → k < length (y ∷ ys) → get_or (y ∷ ys) k x ≡ x → test y ≡ false → test x ≡ true → Contains ys x
contains_later test y ys x zero lt is fails passes = absurd (both_ways (test y) fails (ap test is ∙ passes))
contains_later test y ys x (suc k) lt is fails passes = (k, omega (arith, lt), is)

-- the only item that passes is found
pub find_one : {X : Type 0} (test : X → Bool) (xs : List X) (x : X) → Contains xs x → test x ≡ true → All (λ y. test y ≡ true → y ≡ x) xs → find test xs ≡ Some x
find_one test [] x there passes only = absurd (let lt = there.1 in omega (arith, lt))
find_one {X} test (y ∷ ys) x there passes only =
    ⊎_elim
    (λ (here : test y ≡ true). ap (λ (b : Bool). cond b (Some y) (find test ys)) here ∙ ap Some (All-head (λ (z : X). test z ≡ true → z ≡ x) y ys only here))
    (λ (fails : test y ≡ false).
    ap (λ (b : Bool). cond b (Some y) (find test ys)) fails
    ∙ find_one test ys x (contains_later test y ys x there.0 there.1 there.2 fails passes) passes (All-tail (λ (z : X). test z ≡ true → z ≡ x) y ys only))
    (cases_Bool (test y))

-- ---- the operations

pub operation_lane : (places : List (List Lane)) (params : List ℕ) (e : Expr) (piece : Piece) (lane : Lane) → lane_of_operation (operation_for places params e piece lane) ≡ lane
operation_lane places params (One x) piece lane = refl
operation_lane places params (Two op x y) piece lane = refl

pub operation_word : (places : List (List Lane)) (params : List ℕ) (e : Expr) (piece : Piece) (lane : Lane) → (operation_for places params e piece lane).word ≡ lane.word
operation_word places params e piece lane = ap (λ (l : Lane). l.word) (operation_lane places params e piece lane)

-- what such an operation writes
pub written-operation : (places : List (List Lane)) (params : List ℕ) (words : Words) (held : ℕ) (e : Expr) (piece : Piece) (lane : Lane) → (let op = operation_for places params e piece lane in
    written words held op ≡ deposit (words lane.word) lane.low lane.len (computed op.kind lane.len (source_of words held lane.len op.left) (source_of words held lane.len op.right)))
written-operation places params words held (One x) piece lane = refl
written-operation places params words held (Two op x y) piece lane = refl

-- the operation of a value's piece
abbrev pub op_at : List (List Lane) → List ℕ → Assign → ℕ → Lane → Operation
op_at places params v k d =
    operation_for places params v.expr (piece_of (lanes_of places v.dest) k (get_or (lanes_of places v.dest) k d).len) (get_or (lanes_of places v.dest) k d)

-- an operation of some values
pub record IsOpOf (places : List (List Lane)) (params : List ℕ) (values : List Assign) (y : Operation) : Type 0 where
  pub value : Assign
  pub among : Contains values value
  pub place : ℕ
  pub inside : place < length (lanes_of places value.dest)
  pub is : (d : Lane) → y ≡ op_at places params value place d

module _ (places : List (List Lane)) (params : List ℕ) where
  -- the operation of a piece from a number and a bit on
  abbrev from_at : Expr → ℕ → ℕ → List Lane → ℕ → Lane → Operation
  from_at e number low lanes k d = operation_for places params e (record { number = number + k; low = low + begins lanes k; len = (get_or lanes k d).len }) (get_or lanes k d)

  first_at : (e : Expr) (number low : ℕ) (l : Lane) (ls : List Lane) (d : Lane)
      → operation_for places params e (record { number = number; low = low; len = l.len }) l ≡ operation_for places params e (record { number = number + 0; low = low + begins (l ∷ ls) 0; len = l.len }) l
  first_at e number low l ls d =
      let none : begins (l ∷ ls) 0 ≡ 0 = refl in
      let same : number ≡ number + 0 = omega arith in
      let at : low ≡ low + begins (l ∷ ls) 0 = omega (arith, none) in
      ap (λ n. operation_for places params e (record { number = n; low = low; len = l.len }) l) same
      ∙ ap (λ n. operation_for places params e (record { number = number + 0; low = n; len = l.len }) l) at

  next_at : (e : Expr) (number low : ℕ) (l : Lane) (ls : List Lane) (k : ℕ) (x : Lane)
      → operation_for places params e (record { number = number + 1 + k; low = low + l.len + begins ls k; len = x.len }) x
      ≡ operation_for places params e (record { number = number + suc k; low = low + begins (l ∷ ls) (suc k); len = x.len }) x
  next_at e number low l ls k x =
      let more : begins (l ∷ ls) (suc k) ≡ l.len + begins ls k = bits_of_lanes-cons l (take k ls) in
      let same : number + 1 + k ≡ number + suc k = omega arith in
      let at : low + l.len + begins ls k ≡ low + begins (l ∷ ls) (suc k) = omega (arith, more) in
      ap (λ n. operation_for places params e (record { number = n; low = low + l.len + begins ls k; len = x.len }) x) same
      ∙ ap (λ n. operation_for places params e (record { number = number + suc k; low = n; len = x.len }) x) at

  from_all : (e : Expr) (number low : ℕ) (lanes : List Lane)
      → All (λ (y : Operation). (k : ℕ) × (k < length lanes) × ((d : Lane) → y ≡ operation_for places params e (record { number = number + k; low = low + begins lanes k; len = (get_or lanes k d).len }) (get_or lanes k d))) (operations_from places params e number low lanes)
  from_all e number low [] k d lt = absurd (omega (arith, lt))
  from_all e number low (l ∷ ls) zero d lt = (0, omega arith, λ x. first_at e number low l ls x)
  from_all e number low (l ∷ ls) (suc j) d lt =
      let rest = from_all e (number + 1) (low + l.len) ls j d (omega (arith, lt)) in
      let inside = rest.1 in
      (suc rest.0, omega (arith, inside), λ x. rest.2 x ∙ next_at e number low l ls rest.0 (get_or ls rest.0 x))

  from_has : (e : Expr) (number low : ℕ) (lanes : List Lane) (k : ℕ) (d : Lane) → k < length lanes
      → Contains (operations_from places params e number low lanes) (operation_for places params e (record { number = number + k; low = low + begins lanes k; len = (get_or lanes k d).len }) (get_or lanes k d))
  from_has e number low [] k d lt = absurd (omega (arith, lt))
  from_has e number low (l ∷ ls) zero d lt = (0, omega arith, first_at e number low l ls d)
  from_has e number low (l ∷ ls) (suc k) d lt =
      Contains-later (operation_for places params e (record { number = number; low = low; len = l.len }) l) (operations_from places params e (number + 1) (low + l.len) ls)
      (operation_for places params e (record { number = number + suc k; low = low + begins (l ∷ ls) (suc k); len = (get_or ls k d).len }) (get_or ls k d))
      (subst (Contains (operations_from places params e (number + 1) (low + l.len) ls)) (next_at e number low l ls k (get_or ls k d)) (from_has e (number + 1) (low + l.len) ls k d (omega (arith, lt))))

  -- from 0 on
  at_zero : (v : Assign) (k : ℕ) (d : Lane)
      → operation_for places params v.expr (record { number = 0 + k; low = 0 + begins (lanes_of places v.dest) k; len = (get_or (lanes_of places v.dest) k d).len }) (get_or (lanes_of places v.dest) k d) ≡ op_at places params v k d
  at_zero v k d =
      let x = get_or (lanes_of places v.dest) k d in
      let same : 0 + k ≡ k = omega arith in
      let at : 0 + begins (lanes_of places v.dest) k ≡ begins (lanes_of places v.dest) k = omega arith in
      ap (λ n. operation_for places params v.expr (record { number = n; low = 0 + begins (lanes_of places v.dest) k; len = x.len }) x) same
      ∙ ap (λ n. operation_for places params v.expr (record { number = k; low = n; len = x.len }) x) at

  pub ops_all : (values : List Assign) → All (IsOpOf places params values) (operations_of places params values)
  ops_all values =
      All-flat_map (IsOpOf places params values) (operations_for places params) values
      (λ i d lt.
      (let v = get_or values i d in
      All-weaker (λ (y : Operation). (k : ℕ) × (k < length (lanes_of places v.dest)) × ((d : Lane) → y ≡ operation_for places params v.expr (record { number = 0 + k; low = 0 + begins (lanes_of places v.dest) k; len = (get_or (lanes_of places v.dest) k d).len }) (get_or (lanes_of places v.dest) k d)))
      (IsOpOf places params values)
      (λ y h. record { value = v; among = Contains-get_or values i d lt; place = h.0; inside = h.1; is = λ x. h.2 x ∙ at_zero v h.0 x })
      (operations_for places params v)
      (from_all v.expr 0 0 (lanes_of places v.dest))))

  pub ops_has : (values : List Assign) (v : Assign) (k : ℕ) (d : Lane) → Contains values v → k < length (lanes_of places v.dest) → Contains (operations_of places params values) (op_at places params v k d)
  ops_has values v k d there lt =
      Contains-flat_map (operations_for places params) values v (op_at places params v k d) there
      (subst (Contains (operations_for places params v)) (at_zero v k d) (from_has v.expr 0 0 (lanes_of places v.dest) k d lt))

-- ---- the operation on a word

same_place : (lanes : List Lane) (j k : ℕ) (d : Lane) → AreDistinct (map (λ (l : Lane). l.word) lanes) → j < length lanes → k < length lanes → (get_or lanes j d).word ≡ (get_or lanes k d).word → j ≡ k
same_place lanes j k d once lj lk same =
    let long = length-map lanes (λ (l : Lane). l.word) in
    let at_j = get_or-map (λ (l : Lane). l.word) lanes j d 0 lj in
    let at_k = get_or-map (λ (l : Lane). l.word) lanes k d 0 lk in
    elim (cases_order j k) [
      | inl e ↦ e
      | inr (inl lt) ↦ absurd (once j k 0 lt (omega (arith, long, lk)) (at_j ∙ same ∙ sym at_k))
      | inr (inr gt) ↦ absurd (once k j 0 gt (omega (arith, long, lj)) (at_k ∙ sym same ∙ sym at_j))
    ]

pub one_of_field_at : (places : List (List Lane)) (f : ℕ) → All (λ (ls : List Lane). AreDistinct (map (λ (l : Lane). l.word) ls)) places → AreDistinct (map (λ (l : Lane). l.word) (lanes_of places f))
one_of_field_at [] f h = λ i j d lt below. absurd (omega (arith, below))
one_of_field_at (ls ∷ places) zero h = h 0 ls (omega arith)
one_of_field_at (ls ∷ places) (suc f) h = one_of_field_at places f (λ k d lt. h (suc k) d (omega (arith, lt)))

module _ (p : Program) (places : List (List Lane)) (params : List ℕ) (values : List Assign) (keeps : KeepsApart p places) (folded : AreFolded p places params values) where
  -- an operation on the word of a piece is that piece's
  only_op : (v : Assign) (k : ℕ) (d : Lane) → Contains values v → k < length (lanes_of places v.dest) → (y : Operation) → IsOpOf places params values y → y.word ≡ (get_or (lanes_of places v.dest) k d).word → y ≡ op_at places params v k d
  only_op v k d there lt y op same =
      let w = op.value in
      let j = op.place in
      let word : (get_or (lanes_of places w.dest) j d).word ≡ (get_or (lanes_of places v.dest) k d).word =
      sym (operation_word places params w.expr (piece_of (lanes_of places w.dest) j (get_or (lanes_of places w.dest) j d).len) (get_or (lanes_of places w.dest) j d)) ∙ sym (ap (λ (x : Operation). x.word) (op.is d)) ∙ same in
      elim (cases_eq w.dest v.dest) [
        | inl e ↦
            let same_value : w ≡ v = one_value values w v folded.once op.among there e in
            let inside : j < length (lanes_of places v.dest) = subst (λ f. j < length (lanes_of places f)) e op.inside in
            let at_v : (get_or (lanes_of places v.dest) j d).word ≡ (get_or (lanes_of places v.dest) k d).word = ap (λ f. (get_or (lanes_of places f) j d).word) (sym e) ∙ word in
            let place : j ≡ k = same_place (lanes_of places v.dest) j k d (one_of_field_at places v.dest keeps.one_of_field) inside lt at_v in
            op.is d ∙ ap (λ (x : Assign). op_at places params x j d) same_value ∙ ap (λ n. op_at places params v n d) place
        | inr ne ↦ absurd (folded.apart w v op.among there ne j d op.inside k d lt word)
      ]

  module _ (ops : List Operation) (sorted : IsInstruction (operations_of places params values) ops) where
    pub sorted_all : All (IsOpOf places params values) ops
    sorted_all = All-permutation (IsOpOf places params values) (operations_of places params values) ops sorted.same (ops_all places params values)

    pub op_on-piece : (v : Assign) (k : ℕ) (d : Lane) → Contains values v → k < length (lanes_of places v.dest) → op_on (get_or (lanes_of places v.dest) k d).word ops ≡ Some (op_at places params v k d)
    op_on-piece v k d there lt =
        let lane = get_or (lanes_of places v.dest) k d in
        let op = op_at places params v k d in
        let word : op.word ≡ lane.word = operation_word places params v.expr (piece_of (lanes_of places v.dest) k lane.len) lane in
        find_one (λ (x : Operation). x.word == lane.word) ops op
        (Contains-permutation (operations_of places params values) ops op sorted.same (ops_has places params values v k d there lt))
        (eq-eqb op.word lane.word word)
        (All-weaker (IsOpOf places params values) (λ (y : Operation). (y.word == lane.word) ≡ true → y ≡ op) (λ y h passes. only_op v k d there lt y h (eqb-true y.word lane.word passes)) ops sorted_all)
