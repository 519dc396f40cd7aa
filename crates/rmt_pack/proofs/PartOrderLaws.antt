-- The parts of a node stand in order.
use Rattle.std.proofs.Common.{◌≡◌, ◌⊎◌, ℕ, ◌+◌, ◌<◌, ◌≤◌, ◌==◌, Bool, true, false, cond, List, [], ◌∷◌, ◌++◌, refl, sym, inl, inr, arith}
use Rattle.std.specs.Prelude.{All, AllPairs}
use Rattle.std.specs.List.{enumerate_from, flat_map}
use Rattle.std.proofs.lemmas.Bool.{eqb-true}
use Rattle.std.proofs.lemmas.List.Elements.{All-append, All-cons, All-nil, All-weaker}
use Rattle.std.proofs.lemmas.List.Kept.{AllPairs-cons}
use Rattle.rmt_bits.proofs.PairLaws.{AllPairs-append, AllPairs-none}
use Rattle.rmt_config.specs.declared.config.Config.{Config}
use Rattle.rmt_config.specs.declared.config.Stage.{Stage}
use Rattle.rmt_config.specs.declared.config.Unit.{Unit}
use Rattle.rmt_config.specs.declared.config.Unit.TheVariants.{Gate, Slot}
use Rattle.rmt_config.specs.Rooms.{PartAt, parts_among, parts_of}

-- a part comes before another: in an earlier stage, or before it in the same one
abbrev pub Rises : PartAt → PartAt → Type 0
Rises a b = (a.stage < b.stage) ⊎ ((a.stage ≡ b.stage) × (a.place < b.place))

-- a part of a stage, from a place on, of a node
pub record IsFrom (node k place : ℕ) (a : PartAt) : Type 0 where
  pub stage : a.stage ≡ k
  pub from : place ≤ a.place
  pub own : a.slot.node ≡ node

later : (node k place : ℕ) (a : PartAt) → IsFrom node k (place + 1) a → IsFrom node k place a
later node k place a h = record { stage = h.stage; from = (let le = h.from in omega (arith, le)); own = h.own }

pub among_from : (node k : ℕ) (units : List Unit) (place first : ℕ) → All (IsFrom node k place) (parts_among node k place first units)
among_from node k [] place first = All-nil (IsFrom node k place)
among_from node k (Gate g ∷ units) place first =
    All-weaker (IsFrom node k (place + 1)) (IsFrom node k place) (later node k place) (parts_among node k (place + 1) first units) (among_from node k units (place + 1) first)
among_from node k (Slot s ∷ units) place first =
    by (s.node == node) refl
    (All-weaker (IsFrom node k (place + 1)) (IsFrom node k place) (later node k place) (parts_among node k (place + 1) (first + s.actions + 1) units)
    (among_from node k units (place + 1) (first + s.actions + 1)))
  where
    rest : List PartAt
    rest = parts_among node k (place + 1) (first + s.actions + 1) units

    by : (b : Bool) → (s.node == node) ≡ b → All (IsFrom node k place) rest → All (IsFrom node k place) (cond b (record { stage = k; place = place; first = first; slot = s } ∷ []) [] ++ rest)
    by true is h = All-cons (IsFrom node k place) (record { stage = k; place = place; first = first; slot = s }) rest (record { stage = refl; from = omega arith; own = eqb-true s.node node is }) h
    by false is h = h

-- the parts of stages from one on, of a node
pub record IsBehind (node k : ℕ) (a : PartAt) : Type 0 where
  pub stage : k ≤ a.stage
  pub own : a.slot.node ≡ node

abbrev pub parts_from : ℕ → ℕ → List Stage → List PartAt
parts_from node k stages = flat_map (λ (x : ℕ × Stage). parts_among node x.0 0 0 x.1.units) (enumerate_from k stages)

pub stages_from : (node k : ℕ) (stages : List Stage) → All (IsBehind node k) (parts_from node k stages)
stages_from node k [] = All-nil (IsBehind node k)
stages_from node k (stage ∷ stages) =
    All-append (IsBehind node k) (parts_among node k 0 0 stage.units) (parts_from node (k + 1) stages)
    (All-weaker (IsFrom node k 0) (IsBehind node k) (λ a h. record { stage = (let same = h.stage in omega (arith, same)); own = h.own }) (parts_among node k 0 0 stage.units) (among_from node k stage.units 0 0))
    (All-weaker (IsBehind node (k + 1)) (IsBehind node k) (λ a h. record { stage = (let le = h.stage in omega (arith, le)); own = h.own }) (parts_from node (k + 1) stages) (stages_from node (k + 1) stages))

-- the parts of a node in a stage rise
pub among_rise : (node k : ℕ) (units : List Unit) (place first : ℕ) → AllPairs Rises (parts_among node k place first units)
among_rise node k [] place first = AllPairs-none Rises
among_rise node k (Gate g ∷ units) place first = among_rise node k units (place + 1) first
among_rise node k (Slot s ∷ units) place first = by (s.node == node) (among_rise node k units (place + 1) (first + s.actions + 1))
  where
    rest : List PartAt
    rest = parts_among node k (place + 1) (first + s.actions + 1) units

    here : PartAt
    here = record { stage = k; place = place; first = first; slot = s }

    by : (b : Bool) → AllPairs Rises rest → AllPairs Rises (cond b (here ∷ []) [] ++ rest)
    by true h =
        AllPairs-cons Rises here rest
        (All-weaker (IsFrom node k (place + 1)) (Rises here) (λ a own. let le = own.from in inr (sym own.stage, omega (arith, le))) rest (among_from node k units (place + 1) (first + s.actions + 1))) h
    by false h = h

-- and so do those of all stages
stages_rise : (node k : ℕ) (stages : List Stage) → AllPairs Rises (parts_from node k stages)
stages_rise node k [] = AllPairs-none Rises
stages_rise node k (stage ∷ stages) =
    let rest = parts_from node (k + 1) stages in
    AllPairs-append Rises (parts_among node k 0 0 stage.units) rest (among_rise node k stage.units 0 0) (stages_rise node (k + 1) stages)
    (All-weaker (IsFrom node k 0) (λ a. All (Rises a) rest)
    (λ a own. let same = own.stage in All-weaker (IsBehind node (k + 1)) (Rises a) (λ b h. let le = h.stage in inl (omega (arith, le, same))) rest (stages_from node (k + 1) stages))
    (parts_among node k 0 0 stage.units) (among_from node k stage.units 0 0))

pub parts_in_order : (c : Config) (node : ℕ) → AllPairs Rises (parts_of c node)
parts_in_order c node = stages_rise node 0 c.stages
