-- Rows in groups that compare the same bits of a key.
use Rattle.std.specs.Prelude.{◌≡◌, ℕ, ◌≤◌, Bool, false, List, [], ◌∷◌, length, map, All, AllPairs, Option, Some, None, IsSomeAnd, if◌then◌else◌, min, nat_lt, slice_get, unwrap_or}
use Rattle.rmt_bits.specs.declared.groups.Group.{Group}
use Rattle.rmt_bits.specs.declared.groups.Grouping.{Grouping}
use Rattle.rmt_bits.specs.Places.{are_same, place_of}

-- what a row compares: the bits that count, and what they must be
pub record Compared : Type 0 where
  pub masks : List ℕ
  pub values : List ℕ

-- the place of the first row of a group that wants these bits
abbrev pub place_in : Group → List ℕ → Option ℕ
place_in g values = place_of g.places values

-- a row that wants these bits was added at a place behind the others
pub record PutAt (values : List ℕ) (at : ℕ) (old new : Group) : Type 0 where
  pub masks : new.masks.items ≡ old.masks.items
  pub first : new.first ≡ old.first
  pub places : (vs : List ℕ) → place_in new vs ≡ (if are_same vs values then Some (unwrap_or (place_in old values) at) else place_in old vs)

-- the earlier of two places
abbrev pub earlier : Option ℕ → Option ℕ → Option ℕ
earlier None o = o
earlier (Some a) None = Some a
earlier (Some a) (Some b) = Some (min a b)

-- a place that was found comes before this one
abbrev pub is_before : Option ℕ → ℕ → Bool
is_before None n = false
is_before (Some a) n = nat_lt a n

-- the earliest place that is found in some groups, or one that was found before; groups behind it are not looked at
abbrev pub best_of : (Group → Option ℕ) → List Group → Option ℕ → Option ℕ
best_of find [] best = best
best_of find (g ∷ gs) best = if is_before best g.first then best else best_of find gs (earlier best (find g))

-- the places of the groups' first rows
abbrev pub firsts : List Group → List ℕ
firsts groups = map (λ (g : Group). g.first) groups

-- what a group finds are the rows of its masks, none of them before its first
abbrev pub HasPlaces : List Compared → Group → Type 0
HasPlaces es g =
    (vs : List ℕ) (i : ℕ) → place_in g vs ≡ Some i → (g.first ≤ i) × IsSomeAnd (slice_get es i) (λ (e : Compared). (e.masks ≡ g.masks.items) × (e.values ≡ vs))

-- a group finds a row, or an earlier one that wants the same
pub record Finds (g : Group) (j : ℕ) (e : Compared) : Type 0 where
  pub same : g.masks.items ≡ e.masks
  pub place : ℕ
  pub found : place_in g e.values ≡ Some place
  pub early : place ≤ j

-- some group finds row j
abbrev pub IsFound : List Group → ℕ → Compared → Type 0
IsFound groups j e = (k : ℕ) × (g : Group) × (slice_get groups k ≡ Some g) × Finds g j e

-- the groups of rows, by rising first place
pub record AreGrouped (es : List Compared) (groups : List Group) : Type 0 where
  pub sound : All (HasPlaces es) groups
  pub rising : AllPairs (λ m n. m ≤ n) (firsts groups)
  pub early : All (λ n. n ≤ length es) (firsts groups)
  pub complete : (j : ℕ) (e : Compared) → slice_get es j ≡ Some e → IsFound groups j e

-- the groups of the first rows, with an index whose numbers are those of groups of the masks
pub record AreIndexed (es : List Compared) (g : Grouping) : Type 0 where
  pub grouped : AreGrouped es g.groups.items
  pub index : (masks : List ℕ) (k : ℕ) → place_of g.index masks ≡ Some k → IsSomeAnd (slice_get g.groups.items k) (λ (x : Group). x.masks.items ≡ masks)

-- a group of the masks was chosen, for a row behind those that are grouped
abbrev pub Chosen : List ℕ → ℕ → Grouping → Grouping → ℕ → Type 0
Chosen masks at old new k =
    (es : List Compared) → length es ≡ at → AreIndexed es old → AreIndexed es new × IsSomeAnd (slice_get new.groups.items k) (λ (x : Group). x.masks.items ≡ masks)
