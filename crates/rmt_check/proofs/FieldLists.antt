-- The list of a program's fields.
use Rattle.std.proofs.Common.{◌≡◌, ℕ, ◌+◌, ◌<◌, ◌≤◌, List, [], ◌∷◌, ◌++◌, codes, length, All, refl, length-append, arith}
use Rattle.std.specs.List.{flat_map, enumerate_from}
use Rattle.std.proofs.lemmas.List.{length-map}
use Rattle.std.proofs.lemmas.List.Elements.{All-nil, All-cons, All-head, All-tail, All-append, All-map}
use Rattle.std.proofs.lemmas.List.Sums.{sum_by-cons}
use Rattle.rmt_check.specs.Parts.{Declared, HeaderText, Source}
use Rattle.rmt_check.specs.Names.{Known, Owner, common_fields, of_metadata, of_header, owned, declared_fields, header_fields, metadata}
use Rattle.rmt_check.specs.Sizes.{count_of}

pub count_more : (h : HeaderText) (hs : List HeaderText) → count_of (h ∷ hs) ≡ 1 + length h.fields + count_of hs
count_more h hs = sum_by-cons (λ (x : HeaderText). 1 + length x.fields) h hs

pub length-declared : (o : Owner) (name : List ℕ) (ds : List Declared) → length (declared_fields o name ds) ≡ length ds
length-declared o name ds = length-map ds (λ (d : Declared). owned o name d.ident.name d.width.value)

pub length-header_fields : (n : ℕ) (hs : List HeaderText) → length (flat_map header_fields (enumerate_from n hs)) ≡ count_of hs
length-header_fields n [] = refl
length-header_fields n (h ∷ hs) =
    omega (arith, length-append (header_fields (n, h)) (flat_map header_fields (enumerate_from (n + 1) hs)), length-declared (of_header n) h.ident.name h.fields, length-header_fields (n + 1) hs, count_more h hs)

-- the fields before those of a header, and its number: that of its valid
abbrev pub front : List HeaderText → List Known
front before = common_fields ++ flat_map header_fields (enumerate_from 0 before)

abbrev pub start_of : List HeaderText → ℕ
start_of before = 3 + count_of before

pub length-front : (before : List HeaderText) → length (front before) ≡ start_of before
length-front before = omega (arith, length-header_fields 0 before)

-- the fields behind those of a header, the next of which has that number
abbrev pub back : Source → ℕ → List HeaderText → List Known
back s n after = flat_map header_fields (enumerate_from n after) ++ declared_fields of_metadata (codes "meta") (metadata s)

-- what holds of the fields of each header holds of all of them
module _ (P : Known → Type 0) where
  pub all_header : (n : ℕ) (h : HeaderText) → P (owned (of_header n) h.ident.name (codes "valid") 1) → All (λ (d : Declared). P (owned (of_header n) h.ident.name d.ident.name d.width.value)) h.fields → All P (header_fields (n, h))
  all_header n h valid each =
      All-cons P (owned (of_header n) h.ident.name (codes "valid") 1) (declared_fields (of_header n) h.ident.name h.fields) valid
      (All-map P (λ (d : Declared). owned (of_header n) h.ident.name d.ident.name d.width.value) h.fields each)

  pub all_headers : (Q : HeaderText → Type 0) (n : ℕ) (hs : List HeaderText) → All Q hs
      → ((k : ℕ) (h : HeaderText) → n ≤ k → k < n + length hs → Q h → All P (header_fields (k, h))) → All P (flat_map header_fields (enumerate_from n hs))
  all_headers Q n [] all each = All-nil P
  all_headers Q n (h ∷ hs) all each =
      All-append P (header_fields (n, h)) (flat_map header_fields (enumerate_from (n + 1) hs)) (each n h (omega arith) (omega arith) (All-head Q h hs all))
      (all_headers Q (n + 1) hs (All-tail Q h hs all) (λ k x from to. each k x (omega arith) (omega arith)))
