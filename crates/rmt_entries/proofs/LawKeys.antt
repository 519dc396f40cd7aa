-- What the words of a line say fits the table: tests of its key's fields, their masks, and arguments.
use Rattle.std.proofs.Common.{◌≡◌, ℕ, ◌+◌, ◌-◌, ◌^◌, ◌<◌, ◌==◌, Bool, true, false, List, [], ◌∷◌, Option, Some, None, Ok, bit_and, if◌then◌else◌, option_map, length, slice_get, position, get_or, codes, refl, ap, subst, ◌∙◌, pow_pos, arith}
use Rattle.std.specs.Int.Bits.{and_self}
use Rattle.std.specs.List.{AllZip, list_any, before_first, after_first}
use Rattle.std.specs.Str.{bytes_eq}
use Rattle.std.proofs.lemmas.List.Quantifiers.{position-Some}
use Rattle.std.proofs.Math.Nat.{mod-eq_of_lt}
use Rattle.std.proofs.lemmas.Nat.{and_le_l, and_assoc, and_mask}
use Rattle.std.proofs.lemmas.Option.{same_Some, slice_get-get_or}
use Rattle.rmt_ast.specs.declared.program.Test.{Test}
use Rattle.rmt_ast.specs.declared.program.Kind.{Kind}
use Rattle.rmt_ast.specs.declared.program.Kind.TheVariants.{Keyless, Exact, Prefix, Ternary}
use Rattle.rmt_ast.specs.declared.entry.Entry.{Entry}
use Rattle.rmt_ast.specs.WellFormed.{Fits, IsTest}
use Rattle.rmt_ast.specs.EntryLists.{HasRank, IsEntry, IsPrefix, IsWhole}
use Rattle.rmt_entries.specs.declared.keys.Key.{Key}
use Rattle.rmt_entries.specs.Entries.{Read, arguments, behind_key, whole_line, with_action, with_arguments, with_key}
use Rattle.rmt_entries.specs.Keys.{both, exact_test, key_of, masked, onto, pattern_test, prefix_key, prefix_mask, prefix_of, ranked, read_each, whole}
use Rattle.rmt_entries.specs.Numbers.{below, decimal, number, number_of_width}
use Rattle.rmt_entries.specs.Tables.{AppliedTable}
use Rattle.rmt_bits.proofs.DigitLaws.{below_limit}
use Rattle.rmt_bits.proofs.OptionLaws.{same_Ok}

fits_width : (width : ℕ) (word : List ℕ) (n : ℕ) → number_of_width width word ≡ Some n → Fits width n
fits_width width word n e = below_limit (2 ^ width) (number word) n e

ones_fit : (width : ℕ) → Fits width (2 ^ width - 1)
ones_fit width = let l : 0 < 2 ^ width = pow_pos width in omega arith

whole_law : (width value : ℕ) → Fits width value → IsTest width (whole width value)
whole_law width value h = record {
  value_fits = h;
  mask_fits = ones_fit width;
  value_is_masked = and_mask value width ∙ mod-eq_of_lt h;
}

masked_law : (width value mask : ℕ) → Fits width value → Fits width mask → IsTest width (masked value mask)
masked_law width value mask v m = record {
  value_fits = let l = and_le_l value mask in omega arith;
  mask_fits = m;
  value_is_masked = and_assoc mask value mask ∙ ap (bit_and value) (and_self mask);
}

prefix_mask_fits : (width len : ℕ) → Fits width (prefix_mask width len)
prefix_mask_fits width len = let l : 0 < 2 ^ (width - len) = pow_pos (width - len) in let m : 0 < 2 ^ width = pow_pos width in omega arith

-- a test of a value
exact_law : (width : ℕ) (word : List ℕ) (t : Test) → exact_test width word ≡ Some t → IsTest width t × IsWhole width t
exact_law width word t e = by (number_of_width width word) refl e
  where
    by : (o : Option ℕ) → number_of_width width word ≡ o → option_map (whole width) o ≡ Some t → IsTest width t × IsWhole width t
    by None n h = cc
    by (Some v) n h = subst (λ (x : Test). IsTest width x × IsWhole width x) (same_Some (whole width v) t h) (whole_law width v (fits_width width word v n), refl)

-- what two things say together
pub record Both {X Y Z : Type 0} (f : X → Y → Z) (a : Option X) (b : Option Y) (z : Z) : Type 0 where
  pub x : X
  pub y : Y
  pub first : a ≡ Some x
  pub second : b ≡ Some y
  pub is : f x y ≡ z

pub both_law : {X Y Z : Type 0} (f : X → Y → Z) (a : Option X) (b : Option Y) (z : Z) → both f a b ≡ Some z → Both f a b z
both_law f None b z e = cc
both_law f (Some x) None z e = cc
both_law f (Some x) (Some y) z e = record { x = x; y = y; first = refl; second = refl; is = same_Some (f x y) z e }

-- a test of a pattern
pattern_law : (width : ℕ) (word : List ℕ) (t : Test) → pattern_test width word ≡ Some t → IsTest width t
pattern_law width word t e = by (bytes_eq word (codes "*")) (list_any (λ b. b == 38) word) e
  where
    by : (star has : Bool) → (if star then Some (masked 0 0) else (if has then both masked (number_of_width width (before_first (λ b. b == 38) word)) (number_of_width width (after_first (λ b. b == 38) word)) else exact_test width word)) ≡ Some t
        → IsTest width t
    by true has h = subst (IsTest width) (same_Some (masked 0 0) t h) (masked_law width 0 0 (pow_pos width) (pow_pos width))
    by false true h =
        let two = both_law masked (number_of_width width (before_first (λ b. b == 38) word)) (number_of_width width (after_first (λ b. b == 38) word)) t h in
        subst (IsTest width) two.is (masked_law width two.x two.y (fits_width width (before_first (λ b. b == 38) word) two.x two.first) (fits_width width (after_first (λ b. b == 38) word) two.y two.second))
    by false false h = (exact_law width word t h).0

-- a prefix
prefix_law : (width : ℕ) (word : List ℕ) (key : Key) → prefix_key width word ≡ Some key → AllZip IsTest (width ∷ []) key.tests × AllZip (IsPrefix key.rank) (width ∷ []) key.tests
prefix_law width word key e = by (list_any (λ b. b == 47) word) e
  where
    by : (has : Bool) → (if has then both (prefix_of width) (number_of_width width (before_first (λ b. b == 47) word)) (below (width + 1) (decimal (after_first (λ b. b == 47) word))) else None) ≡ Some key
        → AllZip IsTest (width ∷ []) key.tests × AllZip (IsPrefix key.rank) (width ∷ []) key.tests
    by true h =
        let two = both_law (prefix_of width) (number_of_width width (before_first (λ b. b == 47) word)) (below (width + 1) (decimal (after_first (λ b. b == 47) word))) key h in
        let short : two.y < width + 1 = below_limit (width + 1) (decimal (after_first (λ b. b == 47) word)) two.y two.second in
        subst (λ (k : Key). AllZip IsTest (width ∷ []) k.tests × AllZip (IsPrefix k.rank) (width ∷ []) k.tests) two.is
        ((masked_law width two.x (prefix_mask width two.y) (fits_width width (before_first (λ b. b == 47) word) two.x two.first) (prefix_mask_fits width two.y), tt), ((omega arith, refl), tt))
    by false h = cc

-- what is read for each width
read_each_law : {X : Type 0} (P : ℕ → X → Type 0) (read : ℕ → List ℕ → Option X) → ((w : ℕ) (word : List ℕ) (x : X) → read w word ≡ Some x → P w x)
    → (ws : List ℕ) (words : List (List ℕ)) (r : List X × List (List ℕ)) → read_each read ws words ≡ Some r → AllZip P ws r.0
read_each_law P read each [] words r e = subst (λ (xs : List _ × List (List ℕ)). AllZip P [] xs.0) (same_Some ([], words) r e) tt
read_each_law P read each (w ∷ ws) [] r e = cc
read_each_law P read each (w ∷ ws) (word ∷ words) r e =
    let two = both_law onto (read w word) (read_each read ws words) r e in
    subst (λ (xs : List _ × List (List ℕ)). AllZip P (w ∷ ws) xs.0) two.is (each w word two.x two.first, read_each_law P read each ws words two.y two.second)

-- an entry of a key
abbrev pub entry_with : ℕ → ℕ → Key → ℕ → List ℕ → Entry
entry_with table number key action args = record { table = table; number = number; tests = key.tests; rank = key.rank; action = action; args = args }

pub record KeyFits (kind : Kind) (ws : List ℕ) (key : Key) : Type 0 where
  pub tests : AllZip IsTest ws key.tests
  pub rank : (table number action : ℕ) (args : List ℕ) → HasRank kind ws (entry_with table number key action args)

key_law : (kind : Kind) (ws : List ℕ) (words : List (List ℕ)) (k : Key × List (List ℕ)) → key_of kind ws words ≡ Some k → KeyFits kind ws k.0
key_law Keyless ws words k e = cc
key_law Exact ws words k e = by (read_each exact_test ws words) refl e
  where
    by : (o : Option (List Test × List (List ℕ))) → read_each exact_test ws words ≡ o → option_map (ranked 0) o ≡ Some k → KeyFits Exact ws k.0
    by None r h = cc
    by (Some x) r h =
        subst (λ (y : Key × List (List ℕ)). KeyFits Exact ws y.0) (same_Some (ranked 0 x) k h) (record {
          tests = read_each_law IsTest exact_test (λ w word t s. (exact_law w word t s).0) ws words x r;
          rank = λ table number action args. (read_each_law IsWhole exact_test (λ w word t s. (exact_law w word t s).1) ws words x r, refl);
        })
key_law Prefix [] words k e = cc
key_law Prefix (w ∷ []) [] k e = cc
key_law Prefix (w ∷ []) (x ∷ xs) k e = by (prefix_key w x) refl e
  where
    by : (o : Option Key) → prefix_key w x ≡ o → option_map (λ key. (key, xs)) o ≡ Some k → KeyFits Prefix (w ∷ []) k.0
    by None r h = cc
    by (Some key) r h =
        subst (λ (y : Key × List (List ℕ)). KeyFits Prefix (w ∷ []) y.0) (same_Some (key, xs) k h)
        (record { tests = (prefix_law w x key r).0; rank = λ table number action args. (prefix_law w x key r).1 })
key_law Prefix (w ∷ v ∷ ws) words k e = cc
key_law Ternary ws [] k e = cc
key_law Ternary ws (x ∷ xs) k e =
    let two = both_law ranked (number_of_width 32 x) (read_each pattern_test ws xs) k e in
    subst (λ (y : Key × List (List ℕ)). KeyFits Ternary ws y.0) two.is
    (record { tests = read_each_law IsTest pattern_test pattern_law ws xs two.y two.second; rank = λ table number action args. tt })

arguments_law : (params : List ℕ) (words : List (List ℕ)) (args : List ℕ) → arguments params words ≡ Some args → AllZip Fits params args
arguments_law params words args e = by (read_each number_of_width params words) refl e
  where
    by : (o : Option (List ℕ × List (List ℕ))) → read_each number_of_width params words ≡ o → whole_line o ≡ Some args → AllZip Fits params args
    by None r h = cc
    by (Some x) r h = all (length x.1 == 0) h
      where
        all : (b : Bool) → (if b then Some x.0 else None) ≡ Some args → AllZip Fits params args
        all true i = subst (λ (ns : List ℕ). AllZip Fits params ns) (same_Some x.0 args i) (read_each_law Fits number_of_width fits_width params words x r)
        all false i = cc

-- an entry that the words behind a table's name say
pub record ReadOf (t : AppliedTable) (n : ℕ) (r : Read) : Type 0 where
  pub table : r.table ≡ t
  pub number : r.entry.number ≡ n
  pub entry : IsEntry t.node t.terms r.entry

-- a table has parameters for each of its actions
abbrev pub HasParams : AppliedTable → Type 0
HasParams t = length t.terms.params ≡ length t.actions

pub with_key_law : (t : AppliedTable) (number : ℕ) (words : List (List ℕ)) (r : Read) → HasParams t → with_key t number (key_of t.terms.kind t.terms.widths words) ≡ Ok r → ReadOf t number r
with_key_law t number words r even e = by (key_of t.terms.kind t.terms.widths words) refl e
  where
    args_by : (key : Key) (a : ℕ) (o : Option (List ℕ)) (params : List ℕ) → KeyFits t.terms.kind t.terms.widths key → slice_get t.terms.params a ≡ Some params → ((args : List ℕ) → o ≡ Some args → AllZip Fits params args)
        → with_arguments t number key a o ≡ Ok r → ReadOf t number r
    args_by key a None params fits at each h = cc
    args_by key a (Some args) params fits at each h =
        subst (ReadOf t number) (same_Ok (record { table = t; entry = entry_with t.node number key a args }) r h) (record {
          table = refl;
          number = refl;
          entry = record { table = refl; tests = fits.tests; rank = fits.rank t.node number a args; action = rw at (each args refl) };
        })

    action_by : (key : Key) (name : List ℕ) (xs : List (List ℕ)) (o : Option ℕ) → KeyFits t.terms.kind t.terms.widths key → position (bytes_eq name) t.actions ≡ o → with_action t number key o xs ≡ Ok r → ReadOf t number r
    action_by key name xs None fits at h = cc
    action_by key name xs (Some a) fits at h =
        let within : a < length t.terms.params = let lt = (position-Some (bytes_eq name) t.actions a [] at).0 in omega (arith, even) in
        args_by key a (arguments (get_or t.terms.params a []) xs) (get_or t.terms.params a []) fits (slice_get-get_or t.terms.params a [] within) (λ args s. arguments_law (get_or t.terms.params a []) xs args s) h

    behind_by : (key : Key) (xs : List (List ℕ)) → KeyFits t.terms.kind t.terms.widths key → behind_key t number key xs ≡ Ok r → ReadOf t number r
    behind_by key [] fits h = cc
    behind_by key (name ∷ xs) fits h = action_by key name xs (position (bytes_eq name) t.actions) fits refl h

    by : (o : Option (Key × List (List ℕ))) → key_of t.terms.kind t.terms.widths words ≡ o → with_key t number o ≡ Ok r → ReadOf t number r
    by None s h = cc
    by (Some k) s h = behind_by k.0 k.1 (key_law t.terms.kind t.terms.widths words k s) h
