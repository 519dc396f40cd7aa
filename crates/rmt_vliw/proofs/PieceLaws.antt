-- Pieces of numbers that lanes hold.
use Rattle.std.proofs.Common.{◌≡◌, ℕ, zero, suc, ◌+◌, ◌-◌, ◌*◌, ◌^◌, ◌<◌, ◌≤◌, ◌⊎◌, Bool, true, false, cond, List, [], ◌∷◌, ◌++◌, get_or, take, length, map, replicate, Option, Some, None, refl, sym, ap, ◌∙◌, inl, inr, ⊎_elim, arith}
use Rattle.std.specs.Prelude.{◌/◌, ◌%◌, ◌==◌, bit_and, bit_or, bit_xor, sum, slice_get, slice_index}
use Rattle.std.specs.List.{AllZip}
use Rattle.std.proofs.lemmas.Nat.{pow_pos, shr_high, mod_low, mod_below, and_shr, or_shr, xor_shr, and_mod, or_mod, xor_mod}
use Rattle.std.proofs.lemmas.Bool.{cases_Bool, cases_lt}
use Rattle.std.proofs.lemmas.List.{length-map, get_or-map, take-map}
use Rattle.std.proofs.lemmas.Option.{slice_get-get_or}
use Rattle.rmt_bits.specs.Bits.{slice}
use Rattle.rmt_bits.specs.declared.lane.Lane.{Lane}
use Rattle.rmt_bits.proofs.BitLaws.{slice-lt, slice-add, slice-slice, slice-whole}
use Rattle.rmt_vliw.specs.Types.{Program, Expr, Leaf, Op}
use Rattle.rmt_ast.specs.declared.program.Expr.TheVariants.{One, Two}
use Rattle.rmt_ast.specs.declared.program.Leaf.TheVariants as leaf
use Rattle.rmt_ast.specs.declared.program.Op.TheVariants.{Add, Sub, And, Or, Xor}
use Rattle.rmt_ast.specs.State.{IsState, width_of}
use Rattle.rmt_ast.specs.Actions.{operand, applied, value_of}
use Rattle.rmt_ast.specs.Places.{lanes_of}
use Rattle.rmt_ast.specs.WellFormed.{Fits, IsLeaf, IsOp, IsExpr}
use Rattle.rmt_ast.proofs.StateLaws.{value_fits}
use Rattle.rmt_phv.specs.Packing.{pieces}
use Rattle.rmt_phv.specs.Places.{KeepsApart}
use Rattle.rmt_config.specs.LaneForm.{bits_of_lanes}
use Rattle.rmt_config.specs.Life.{Words, lane_of, source_of, computed}
use Rattle.rmt_vliw.specs.declared.piece.Piece.{Piece}
use Rattle.rmt_vliw.specs.Operations.{lane_source, source_for, kind_for, operation_for}
use Rattle.rmt_config.specs.Effects.{held_by, Hold, HasArguments, begin_of}
use Rattle.rmt_config.proofs.HeldLaws.{bits_of_lanes-cons, computed-lt}
use Rattle.rmt_phv.proofs.LaneLaws.{lanes_cut, lanes_width}

-- ---- numbers

two_parts : (a b c d len : ℕ) → a < 2 ^ len → d < 2 ^ len → a + 2 ^ len * b ≡ c * 2 ^ len + d → (a ≡ d) × (b ≡ c)
two_parts a b c d len ha hd e =
    let same : b * 2 ^ len + a ≡ c * 2 ^ len + d = omega (arith, e) in
    (sym (mod_low b len a ha) ∙ ap (λ n. n % 2 ^ len) same ∙ mod_low c len d hd, sym (shr_high b len a ha) ∙ ap (λ n. n / 2 ^ len) same ∙ shr_high c len d hd)

slice-and : (a b low len : ℕ) → bit_and (slice a low len) (slice b low len) ≡ slice (bit_and a b) low len
slice-and a b low len = sym (ap (λ n. n % 2 ^ len) (and_shr a b low) ∙ and_mod (a / 2 ^ low) (b / 2 ^ low) len)

slice-or : (a b low len : ℕ) → bit_or (slice a low len) (slice b low len) ≡ slice (bit_or a b) low len
slice-or a b low len = sym (ap (λ n. n % 2 ^ len) (or_shr a b low) ∙ or_mod (a / 2 ^ low) (b / 2 ^ low) len)

slice-xor : (a b low len : ℕ) → bit_xor (slice a low len) (slice b low len) ≡ slice (bit_xor a b) low len
slice-xor a b low len = sym (ap (λ n. n % 2 ^ len) (xor_shr a b low) ∙ xor_mod (a / 2 ^ low) (b / 2 ^ low) len)

-- ---- lanes one behind another

-- the bit at which a lane's piece begins
abbrev pub begins : List Lane → ℕ → ℕ
begins lanes k = bits_of_lanes (take k lanes)

-- each lane has its piece of a number, from bit low on
abbrev pub Reads : Words → ℕ → ℕ → List Lane → Type 0
Reads words v low lanes = (k : ℕ) (d : Lane) → k < length lanes → lane_of words (get_or lanes k d) ≡ slice v (low + begins lanes k) (get_or lanes k d).len

-- where they hold the number together
pub reads : (words : Words) (v low : ℕ) (lanes : List Lane) → held_by words lanes ≡ slice v low (bits_of_lanes lanes) → Reads words v low lanes
reads words v low [] h k d lt = absurd (omega (arith, lt))
reads words v low (l ∷ ls) h zero d lt =
    let bits : bits_of_lanes (l ∷ ls) ≡ bits_of_lanes ls + l.len = (let e = bits_of_lanes-cons l ls in omega (arith, e)) in
    let parts = two_parts (lane_of words l) (held_by words ls) (slice v (low + l.len) (bits_of_lanes ls)) (slice v low l.len) l.len (slice-lt (words l.word) l.low l.len) (slice-lt v low l.len)
    (h ∙ ap (slice v low) bits ∙ slice-add v low (bits_of_lanes ls) l.len) in
    let at : low ≡ low + begins (l ∷ ls) 0 = (let none : begins (l ∷ ls) 0 ≡ 0 = refl in omega (arith, none)) in
    parts.0 ∙ ap (λ n. slice v n l.len) at
reads words v low (l ∷ ls) h (suc k) d lt =
    let bits : bits_of_lanes (l ∷ ls) ≡ bits_of_lanes ls + l.len = (let e = bits_of_lanes-cons l ls in omega (arith, e)) in
    let parts = two_parts (lane_of words l) (held_by words ls) (slice v (low + l.len) (bits_of_lanes ls)) (slice v low l.len) l.len (slice-lt (words l.word) l.low l.len) (slice-lt v low l.len)
    (h ∙ ap (slice v low) bits ∙ slice-add v low (bits_of_lanes ls) l.len) in
    let more : begins (l ∷ ls) (suc k) ≡ l.len + begins ls k = bits_of_lanes-cons l (take k ls) in
    let at : low + l.len + begins ls k ≡ low + begins (l ∷ ls) (suc k) = omega (arith, more) in
    reads words v (low + l.len) ls parts.1 k d (omega (arith, lt)) ∙ ap (λ n. slice v n (get_or ls k d).len) at

-- and back
pub held_from : (words : Words) (v low : ℕ) (lanes : List Lane) → Reads words v low lanes → held_by words lanes ≡ slice v low (bits_of_lanes lanes)
held_from words v low [] r = let small = slice-lt v low 0 in omega (arith, small)
held_from words v low (l ∷ ls) r =
    let bits : bits_of_lanes (l ∷ ls) ≡ bits_of_lanes ls + l.len = (let e = bits_of_lanes-cons l ls in omega (arith, e)) in
    let at : low + begins (l ∷ ls) 0 ≡ low = (let none : begins (l ∷ ls) 0 ≡ 0 = refl in omega (arith, none)) in
    let here : lane_of words l ≡ slice v low l.len = r 0 l (omega arith) ∙ ap (λ n. slice v n l.len) at in
    let rest : held_by words ls ≡ slice v (low + l.len) (bits_of_lanes ls) =
    held_from words v (low + l.len) ls (λ k d lt.
    (let more : begins (l ∷ ls) (suc k) ≡ l.len + begins ls k = bits_of_lanes-cons l (take k ls) in
    let shifted : low + begins (l ∷ ls) (suc k) ≡ low + l.len + begins ls k = omega (arith, more) in
    r (suc k) d (omega (arith, lt)) ∙ ap (λ n. slice v n (get_or ls k d).len) shifted)) in
    let whole : slice v low (bits_of_lanes (l ∷ ls)) ≡ slice v (low + l.len) (bits_of_lanes ls) * 2 ^ l.len + slice v low l.len = ap (slice v low) bits ∙ slice-add v low (bits_of_lanes ls) l.len in
    ap (λ n. n + 2 ^ l.len * held_by words ls) here ∙ ap (λ n. slice v low l.len + 2 ^ l.len * n) rest ∙ (let turned : slice v low l.len + 2 ^ l.len * slice v (low + l.len) (bits_of_lanes ls) ≡ slice v (low + l.len) (bits_of_lanes ls) * 2 ^ l.len + slice v low l.len = omega arith in turned) ∙ sym whole

-- a piece ends within all bits
pub begins-le : (lanes : List Lane) (k : ℕ) (d : Lane) → k < length lanes → begins lanes k + (get_or lanes k d).len ≤ bits_of_lanes lanes
begins-le [] k d lt = absurd (omega (arith, lt))
begins-le (l ∷ ls) zero d lt = let e = bits_of_lanes-cons l ls in let none : begins (l ∷ ls) 0 ≡ 0 = refl in omega (arith, e, none)
begins-le (l ∷ ls) (suc k) d lt =
    let e = bits_of_lanes-cons l ls in
    let more : begins (l ∷ ls) (suc k) ≡ l.len + begins ls k = bits_of_lanes-cons l (take k ls) in
    let rest = begins-le ls k d (omega (arith, lt)) in
    omega (arith, e, more, rest)

-- ---- lanes that are cut alike

module _ (xs ys : List Lane) (cut : map (λ (l : Lane). l.len) xs ≡ map (λ (l : Lane). l.len) ys) where
  pub alike-long : length xs ≡ length ys
  alike-long = sym (length-map xs (λ (l : Lane). l.len)) ∙ ap length cut ∙ length-map ys (λ (l : Lane). l.len)

  pub alike-len : (k : ℕ) (d : Lane) → k < length xs → (get_or xs k d).len ≡ (get_or ys k d).len
  alike-len k d lt =
      let other : k < length ys = (let long = alike-long in omega (arith, lt, long)) in
      sym (get_or-map (λ (l : Lane). l.len) xs k d 0 lt) ∙ ap (λ ns. get_or ns k 0) cut ∙ get_or-map (λ (l : Lane). l.len) ys k d 0 other

  pub alike-begins : (k : ℕ) → begins xs k ≡ begins ys k
  alike-begins k = sym (ap sum (take-map (λ (l : Lane). l.len) k xs)) ∙ ap (λ ns. sum (take k ns)) cut ∙ ap sum (take-map (λ (l : Lane). l.len) k ys)

-- ---- the pieces of a width

pieces_few : (w : ℕ) → w ≤ 32 → (pieces w ≡ []) ⊎ (pieces w ≡ w ∷ [])
pieces_few w le =
    elim (cases_lt w 32) [
      | inl lt ↦
          let none : w / 32 ≡ 0 = omega (arith, lt) in
          let rest : w % 32 ≡ w = omega (arith, lt) in
          let is : pieces w ≡ cond (w == 0) [] (w ∷ []) =
          ap (λ n. replicate n 32 ++ cond (w % 32 == 0) [] ((w % 32) ∷ [])) none ∙ ap (λ n. cond (n == 0) [] (n ∷ [])) rest in
          ⊎_elim
          (λ (empty : (w == 0) ≡ true). inl (is ∙ ap (λ (b : Bool). cond b [] (w ∷ [])) empty))
          (λ (some : (w == 0) ≡ false). inr (is ∙ ap (λ (b : Bool). cond b [] (w ∷ [])) some))
          (cases_Bool (w == 0))
      | inr ge ↦ let e : w ≡ 32 = omega (arith, le, ge) in inr (ap pieces e ∙ ap (λ n. n ∷ []) (sym e))
    ]

lanes_few : (lanes : List Lane) (w k : ℕ) (d : Lane) → map (λ (l : Lane). l.len) lanes ≡ w ∷ [] → k < length lanes → (begins lanes k ≡ 0) × ((get_or lanes k d).len ≡ w)
lanes_few [] w k d cut lt = absurd cc
lanes_few (l ∷ []) w zero d cut lt = (refl, (let same : l.len ≡ w = cc in same))
lanes_few (l ∷ []) w (suc k) d cut lt = absurd (omega (arith, lt))
lanes_few (l ∷ m ∷ ls) w k d cut lt = absurd cc

-- a field of at most 32 bits has one piece
pub one_piece : (lanes : List Lane) (w k : ℕ) (d : Lane) → map (λ (l : Lane). l.len) lanes ≡ pieces w → w ≤ 32 → k < length lanes → (begins lanes k ≡ 0) × ((get_or lanes k d).len ≡ w)
one_piece lanes w k d cut le lt =
    elim (pieces_few w le) [
      | inl none ↦ let short : length lanes ≡ 0 = sym (length-map lanes (λ (l : Lane). l.len)) ∙ ap length (cut ∙ none) in absurd (omega (arith, short, lt))
      | inr one ↦ lanes_few lanes w k d (cut ∙ one) lt
    ]

-- ---- operations on pieces

-- an operator piece by piece
pub applied_piece : (op : Op) (w a b low len : ℕ) → a < 2 ^ w → b < 2 ^ w → IsOp w op → (w ≤ 32 → (low ≡ 0) × (len ≡ w))
    → computed (kind_for op) len (slice a low len) (slice b low len) ≡ slice (applied op w a b) low len
applied_piece And w a b low len ha hb is one = slice-and a b low len
applied_piece Or w a b low len ha hb is one = slice-or a b low len
applied_piece Xor w a b low len ha hb is one = slice-xor a b low len
applied_piece Add w a b low len ha hb is one =
    let at = one is in
    let whole : (slice a 0 w + slice b 0 w) % 2 ^ w ≡ (a + b) % 2 ^ w = ap (λ n. (n + slice b 0 w) % 2 ^ w) (slice-whole a w ha) ∙ ap (λ n. (a + n) % 2 ^ w) (slice-whole b w hb) in
    ap (λ n. (slice a n len + slice b n len) % 2 ^ len) at.0 ∙ ap (λ n. (slice a 0 n + slice b 0 n) % 2 ^ n) at.1 ∙ whole
    ∙ sym (slice-whole ((a + b) % 2 ^ w) w (mod_below (a + b) (2 ^ w) (pow_pos w)))
    ∙ ap (slice ((a + b) % 2 ^ w) 0) (sym at.1) ∙ ap (λ n. slice ((a + b) % 2 ^ w) n len) (sym at.0)
applied_piece Sub w a b low len ha hb is one =
    let at = one is in
    let less = (a + 2 ^ w - b) % 2 ^ w in
    let whole : (slice a 0 w + 2 ^ w - slice b 0 w) % 2 ^ w ≡ less = ap (λ n. (n + 2 ^ w - slice b 0 w) % 2 ^ w) (slice-whole a w ha) ∙ ap (λ n. (a + 2 ^ w - n) % 2 ^ w) (slice-whole b w hb) in
    ap (λ n. (slice a n len + 2 ^ len - slice b n len) % 2 ^ len) at.0 ∙ ap (λ n. (slice a 0 n + 2 ^ n - slice b 0 n) % 2 ^ n) at.1 ∙ whole
    ∙ sym (slice-whole less w (mod_below (a + 2 ^ w - b) (2 ^ w) (pow_pos w)))
    ∙ ap (slice less 0) (sym at.1) ∙ ap (λ n. slice less n len) (sym at.0)

-- a piece of a field
abbrev pub piece_of : List Lane → ℕ → ℕ → Piece
piece_of lanes k len = record { number = k; low = begins lanes k; len = len }

-- fields of one width are cut into the same pieces
cut_alike : (p : Program) (places : List (List Lane)) → KeepsApart p places → (f g : ℕ) → width_of p g ≡ width_of p f → map (λ (l : Lane). l.len) (lanes_of places g) ≡ map (λ (l : Lane). l.len) (lanes_of places f)
cut_alike p places keeps f g width = lanes_cut p places g keeps.cut ∙ ap pieces width ∙ sym (lanes_cut p places f keeps.cut)

pub piece_there : (p : Program) (places : List (List Lane)) → KeepsApart p places → (f g k : ℕ) (d : Lane) → k < length (lanes_of places f) → width_of p g ≡ width_of p f
    → (k < length (lanes_of places g)) × ((get_or (lanes_of places g) k d).len ≡ (get_or (lanes_of places f) k d).len)
piece_there p places keeps f g k d lt width =
    let cut = cut_alike p places keeps f g width in
    let inside : k < length (lanes_of places g) = (let long = alike-long (lanes_of places g) (lanes_of places f) cut in omega (arith, lt, long)) in
    (inside, alike-len (lanes_of places g) (lanes_of places f) cut k d inside)

module _ (p : Program) (places : List (List Lane)) (params args s : List ℕ) (words : Words) (held : ℕ) (keeps : KeepsApart p places)
    (state : IsState p s) (taken : AllZip Fits params args) (has : HasArguments params args held) (hold : Hold places words s) where
  field_reads : (f : ℕ) → f < length p.fields → Reads words (slice_index s f) 0 (lanes_of places f)
  field_reads f within =
      let bits = lanes_width p places f keeps.cut in
      reads words (slice_index s f) 0 (lanes_of places f) (hold f ∙ sym (slice-whole (slice_index s f) (width_of p f) (state.fits f within)) ∙ ap (slice (slice_index s f) 0) (sym bits))

  -- what a source reads is the piece of the operand
  source_piece : (f k : ℕ) (d : Lane) → k < length (lanes_of places f) → (x : Leaf) → IsLeaf p params (width_of p f) x
      → source_of words held (get_or (lanes_of places f) k d).len (source_for places params (piece_of (lanes_of places f) k (get_or (lanes_of places f) k d).len) x)
      ≡ slice (operand s args x) (begins (lanes_of places f) k) (get_or (lanes_of places f) k d).len
  source_piece f k d lt (leaf.Field g) is =
      let ys = lanes_of places g in
      let len = (get_or (lanes_of places f) k d).len in
      let (inside, same) = piece_there p places keeps f g k d lt is.1 in
      let none : 0 + begins ys k ≡ begins ys k = omega arith in
      ap (λ o. source_of words held len (lane_source o)) (slice_get-get_or ys k d inside)
      ∙ ap (slice (words (get_or ys k d).word) (get_or ys k d).low) (sym same)
      ∙ field_reads g is.0 k d inside
      ∙ ap (λ n. slice (slice_index s g) n (get_or ys k d).len) none
      ∙ ap (slice (slice_index s g) (begins ys k)) same
      ∙ ap (λ n. slice (slice_index s g) n len) (alike-begins ys (lanes_of places f) (cut_alike p places keeps f g is.1) k)
  source_piece f k d lt (leaf.Param i) is =
      let xs = lanes_of places f in
      let len = (get_or xs k d).len in
      let ends = begins-le xs k d lt in
      let bits = lanes_width p places f keeps.cut in
      sym (slice-slice held (begin_of params i) (width_of p f) (begins xs k) len (omega (arith, ends, bits)))
      ∙ ap (λ n. slice n (begins xs k) len) (has i (width_of p f) is)
  source_piece f k d lt (leaf.Number n) is = refl

  leaf_fits : (w : ℕ) (x : Leaf) → IsLeaf p params w x → operand s args x < 2 ^ w
  leaf_fits w x h = value_fits p params args s taken state w (One x) h

  -- what an operation computes is the piece of the value
  pub operation_piece : (f k : ℕ) (d lane : Lane) → k < length (lanes_of places f) → (e : Expr) → IsExpr p params (width_of p f) e
      → (let op = operation_for places params e (piece_of (lanes_of places f) k (get_or (lanes_of places f) k d).len) lane in
      computed op.kind (get_or (lanes_of places f) k d).len (source_of words held (get_or (lanes_of places f) k d).len op.left) (source_of words held (get_or (lanes_of places f) k d).len op.right))
      ≡ slice (value_of (width_of p f) e s args) (begins (lanes_of places f) k) (get_or (lanes_of places f) k d).len
  operation_piece f k d lane lt (One x) is = source_piece f k d lt x is
  operation_piece f k d lane lt (Two op x y) is =
      let xs = lanes_of places f in
      let len = (get_or xs k d).len in
      let piece = piece_of xs k len in
      ap (λ n. computed (kind_for op) len n (source_of words held len (source_for places params piece y))) (source_piece f k d lt x is.1)
      ∙ ap (λ n. computed (kind_for op) len (slice (operand s args x) (begins xs k) len) n) (source_piece f k d lt y is.2)
      ∙ applied_piece op (width_of p f) (operand s args x) (operand s args y) (begins xs k) len (leaf_fits (width_of p f) x is.1) (leaf_fits (width_of p f) y is.2) is.0
      (λ few. one_piece xs (width_of p f) k d (lanes_cut p places f keeps.cut) few lt)

-- ---- what is written fits its lane

source_fits : (places : List (List Lane)) (params : List ℕ) (words : Words) (held : ℕ) (piece : Piece) (x : Leaf) → source_of words held piece.len (source_for places params piece x) < 2 ^ piece.len
source_fits places params words held piece (leaf.Field f) = lane_fits (slice_get (lanes_of places f) piece.number)
  where
    lane_fits : (o : Option Lane) → source_of words held piece.len (lane_source o) < 2 ^ piece.len
    lane_fits None = pow_pos piece.len
    lane_fits (Some l) = slice-lt (words l.word) l.low piece.len
source_fits places params words held piece (leaf.Param i) = slice-lt held (begin_of params i + piece.low) piece.len
source_fits places params words held piece (leaf.Number n) = slice-lt n piece.low piece.len

pub operation_fits : (places : List (List Lane)) (params : List ℕ) (words : Words) (held : ℕ) (e : Expr) (piece : Piece) (lane : Lane) → (let op = operation_for places params e piece lane in
    computed op.kind piece.len (source_of words held piece.len op.left) (source_of words held piece.len op.right)) < 2 ^ piece.len
operation_fits places params words held (One x) piece lane = source_fits places params words held piece x
operation_fits places params words held (Two op x y) piece lane =
    computed-lt (kind_for op) piece.len _ _ (source_fits places params words held piece x) (source_fits places params words held piece y)
