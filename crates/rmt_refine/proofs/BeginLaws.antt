-- Where the parser agrees with a program's walk, a packet that it accepts begins with words that hold the walk's state, and with the walk's tails.
use Rattle.std.proofs.Common.{◌≡◌, ℕ, ◌+◌, ◌*◌, ◌^◌, ◌<◌, ◌≤◌, List, [], ◌∷◌, length, map, get_or, refl, sym, ap, ◌∙◌, subst, ◌⊎◌, inl, inr, arith}
use Rattle.std.specs.Prelude.{All, Contains, slice_index, slice_index_or, slice_set}
use Rattle.std.proofs.Math.ListN.{get_or-map}
use Rattle.std.proofs.lemmas.Bool.{cases_eq}
use Rattle.std.proofs.lemmas.List.{get_or-set_other, get_or-set_same, length-map}
use Rattle.std.proofs.lemmas.List.Elements.{All-head, Contains-get_or}
use Rattle.rmt_bits.specs.Bits.{deposit, slice}
use Rattle.rmt_bits.specs.declared.lane.Lane.{Lane}
use Rattle.rmt_bits.proofs.BitLaws.{slice-deposit_above, slice-deposit_below, slice-deposit_same}
use Rattle.rmt_refine.specs.Types.{Program, Config}
use Rattle.rmt_ast.specs.Places.{lanes_of}
use Rattle.rmt_ast.specs.State.{IsState, width_of}
use Rattle.rmt_ast.specs.Walk as walks
use Rattle.rmt_ast.specs.Walk.{walk}
use Rattle.rmt_ast.specs.WellFormed.{IsProgram}
use Rattle.rmt_ast.proofs.RunStateLaws.{LeavesState, walk_leaves}
use Rattle.rmt_phv.specs.Places.{KeepsApart, LiesInWord, AreApart}
use Rattle.rmt_config.specs.Agreement.{HasReached, Holds, held_in}
use Rattle.rmt_config.specs.ChipRun.{tail_bytes}
use Rattle.rmt_config.specs.LaneForm.{bits_of_lanes}
use Rattle.rmt_config.specs.Life.{Words, lane_of}
use Rattle.rmt_config.specs.Parser.{Reached, Accept, no_tail, parse, put}
use Rattle.rmt_config.specs.Effects.{held_by, Hold}
use Rattle.rmt_refine.specs.Places.{PlacesCarried, StandsIn}
use Rattle.rmt_refine.proofs.LaneLaws.{fields_apart}
use Rattle.rmt_config.proofs.HeldLaws.{SameIn, held_same}
use Rattle.rmt_phv.proofs.LaneLaws.{lanes_width, lanes_lie}
use Rattle.rmt_refine.proofs.WalkedLaws.{KeepsPort, KeepsTails, WalkLeaves, parse_keeps_tails, walk_keeps_port}
use Rattle.rmt_bits.proofs.MemberLaws.{Contains-first}

-- ---- a vector as words

abbrev pub words_of_vector : List ℕ → Words
words_of_vector vector w = slice_index vector w

held_in_words : (vector : List ℕ) (ls : List Lane) → held_by (words_of_vector vector) ls ≡ held_in vector ls
held_in_words vector [] = refl
held_in_words vector (l ∷ ls) = ap (λ n. slice (slice_index vector l.word) l.low l.len + 2 ^ l.len * n) (held_in_words vector ls)

-- ---- a lane that is put

-- bits of another word, or below or above a lane in its word
abbrev IsBeside : Lane → Lane → Type 0
IsBeside l m = ((m.word ≡ l.word) → ⊥) ⊎ ((m.low + m.len ≤ l.low) ⊎ (l.low + l.len ≤ m.low))

beside : (l m : Lane) → AreApart l m → IsBeside l m
beside l m (inl other) = inl (λ e. other (sym e))
beside l m (inr (inl below)) = inr (inr below)
beside l m (inr (inr above)) = inr (inl above)

module _ (v : List ℕ) (l : Lane) (x : ℕ) (inside : l.word < length v) (fits : x < 2 ^ l.len) where
  put_same : lane_of (words_of_vector (put v l x)) l ≡ x
  put_same =
      ap (λ w. slice w l.low l.len) (get_or-set_same v l.word (deposit (slice_index v l.word) l.low l.len x) 0 inside)
      ∙ slice-deposit_same (slice_index v l.word) l.low l.len x fits

  other_word : (m : Lane) → ((m.word ≡ l.word) → ⊥) → SameIn (words_of_vector (put v l x)) (words_of_vector v) m
  other_word m other = ap (λ w. slice w m.low m.len) (get_or-set_other v l.word m.word (deposit (slice_index v l.word) l.low l.len x) 0 other)

  same_word : (m : Lane) → m.word ≡ l.word → (m.low + m.len ≤ l.low) ⊎ (l.low + l.len ≤ m.low) → SameIn (words_of_vector (put v l x)) (words_of_vector v) m
  same_word m same side =
      ap (λ w. slice (slice_index (put v l x) w) m.low m.len) same
      ∙ ap (λ w. slice w m.low m.len) (get_or-set_same v l.word (deposit (slice_index v l.word) l.low l.len x) 0 inside)
      ∙ elim side [
        | inl below ↦ slice-deposit_below (slice_index v l.word) l.low l.len x m.low m.len fits below
        | inr above ↦ slice-deposit_above (slice_index v l.word) l.low l.len x m.low m.len fits above
      ]
      ∙ ap (λ w. slice (slice_index v w) m.low m.len) (sym same)

  put_apart : (m : Lane) → AreApart l m → SameIn (words_of_vector (put v l x)) (words_of_vector v) m
  put_apart m apart = elim (beside l m apart) [
    | inl other ↦ other_word m other
    | inr side ↦ elim (cases_eq m.word l.word) [ inl same ↦ same_word m same side | inr other ↦ other_word m other ]
  ]

-- ---- the port is put

module _ (p : Program) (places : List (List Lane)) (l : Lane) (s v : List ℕ) (port : ℕ) (apart : KeepsApart p places) (wide : width_of p 0 ≡ 9) (stands : StandsIn places 0 l)
    (holds : Holds places (slice_set s 0 0) v) (is : slice_index s 0 ≡ port) (below : port < 512) where
  lane_inside : l.word < length v
  lane_inside =
      omega (arith, holds.whole, (All-head LiesInWord l [] (subst (All LiesInWord) stands (lanes_lie p places 0 apart))).exists)

  port_fits : port < 2 ^ l.len
  port_fits =
      let bits : bits_of_lanes (l ∷ []) ≡ 9 = sym (ap bits_of_lanes stands) ∙ lanes_width p places 0 apart.cut ∙ wide in
      let len : 9 ≡ l.len = omega (arith, bits) in
      subst (λ n. port < 2 ^ n) len below

  holds_in_port : held_by (words_of_vector (put v l port)) (lanes_of places 0) ≡ slice_index s 0
  holds_in_port =
      ap (held_by (words_of_vector (put v l port))) stands
      ∙ (let e : lane_of (words_of_vector (put v l port)) l + 2 ^ l.len * 0 ≡ lane_of (words_of_vector (put v l port)) l = omega arith in e)
      ∙ put_same v l port lane_inside port_fits ∙ sym is

  holds_other : (f : ℕ) → (f ≡ 0 → ⊥) → held_by (words_of_vector (put v l port)) (lanes_of places f) ≡ slice_index s f
  holds_other f ne =
      let in_port : Contains (lanes_of places 0) l = subst (λ ls. Contains ls l) (sym stands) (Contains-first l []) in
      held_same (words_of_vector (put v l port)) (words_of_vector v) (lanes_of places f)
      (λ k d lt.
      put_apart v l port lane_inside port_fits (get_or (lanes_of places f) k d)
      (fields_apart places 0 f l (get_or (lanes_of places f) k d) apart.no_overlap (λ e. ne (sym e)) in_port (Contains-get_or (lanes_of places f) k d lt)))
      ∙ held_in_words v (lanes_of places f) ∙ holds.fields f ∙ get_or-set_other s 0 f 0 0 ne

  -- the words of a vector hold a state once the port is put, where without it they hold the state with 0 for in_port
  pub hold_port : Hold places (words_of_vector (put v l port)) s
  hold_port f = elim (cases_eq f 0) [
    | inl e ↦ subst (λ g. held_by (words_of_vector (put v l port)) (lanes_of places g) ≡ slice_index s g) (sym e) holds_in_port
    | inr ne ↦ holds_other f ne
  ]

-- ---- the packet

-- with what an accepted packet begins
pub record Begins (p : Program) (places : List (List Lane)) (c : Config) (port : ℕ) (frame : List ℕ) (r : Reached) (w : walks.Reached) : Type 0 where
  pub state : IsState p w.state
  pub hold : Hold places (words_of_vector (put r.vector c.in_port port)) w.state
  pub at : r.at ≡ w.at
  pub room : length p.headers ≤ length (map (tail_bytes frame) r.tails)
  pub tails_long : length w.tails ≡ length p.headers
  pub tails : (n : ℕ) → slice_index_or (map (tail_bytes frame) r.tails) n [] ≡ slice_index_or w.tails n []

pub begins : (p : Program) (places : List (List Lane)) (c : Config) (port : ℕ) (frame : List ℕ) (r : Reached) (w : walks.Reached) → IsProgram p → PlacesCarried p places c → port < 512
    → parse c.parser frame ≡ Accept r → walk p port frame ≡ walks.Accept w → HasReached places frame r w → Begins p places c port frame r w
begins p places c port frame r w program carried below parsed walked reached =
    let kept = subst (WalkLeaves (KeepsPort p port)) walked (walk_keeps_port p port frame program) in
    let room = subst KeepsTails parsed (parse_keeps_tails c.parser frame) in
    record {
      state = (subst (LeavesState p frame) walked (walk_leaves p port frame program below)).0;
      hold = hold_port p places c.in_port w.state r.vector port carried.apart program.fields.in_port carried.in_port reached.state kept.port_is below;
      at = reached.at;
      room = (let long = length-map r.tails (tail_bytes frame) in omega (arith, long, room, program.counts.headers));
      tails_long = kept.tails;
      tails = λ n. get_or-map (tail_bytes frame) r.tails n no_tail ∙ reached.tails n;
    }
