-- A prefix table is named as its parts are filled, by its rows.
use Rattle.std.proofs.Common.{◌≡◌, ℕ, ◌+◌, ◌<◌, ◌≤◌, List, [], ◌∷◌, ◌++◌, length, get_or, drop, map, Bool, true, false, not, ◌&&◌, ◌||◌, leb, ltb, eqb, refl, sym, ap, ◌∙◌, append_assoc, subst, arith}
use Rattle.std.specs.Prelude.{All, is_some, sum, unwrap_or}
use Rattle.std.specs.List.{flat_map, list_all}
use Rattle.std.proofs.lemmas.Bool.{and_parts, eqb-true, leb-true, le-leb, lt-leb}
use Rattle.std.proofs.lemmas.List.{append-nil, map-append}
use Rattle.std.proofs.lemmas.List.Elements.{All-nil, All-cons, All-head, All-tail}
use Rattle.std.proofs.lemmas.List.Folds.{list_all-append, list_all-map}
use Rattle.std.proofs.lemmas.List.Sums.{sum_by-cons}
use Rattle.std.proofs.Math.Bool.{and-true}
use Rattle.rmt_bits.specs.Bits.{slice}
use Rattle.rmt_bits.proofs.AllLaws.{All-unmap}
use Rattle.rmt_bits.proofs.FunctionLaws.{funext}
use Rattle.rmt_ast.specs.declared.names.TableName.{TableName}
use Rattle.rmt_ast.specs.declared.names.RankOf.{RankOf}
use Rattle.rmt_ast.specs.declared.program.Kind.{Kind}
use Rattle.rmt_ast.specs.declared.program.Kind.TheVariants as kind
use Rattle.rmt_ast.specs.declared.program.Test.{Test}
use Rattle.rmt_ast.specs.declared.entry.Entry.{Entry}
use Rattle.rmt_ast.specs.Changes.{are_same}
use Rattle.rmt_ast.specs.NameRules.{has_fields, table_is_formed}
use Rattle.rmt_ast.specs.Naming.{rank_of}
use Rattle.rmt_config.specs.Types.{CellNumber, Config, Memory}
use Rattle.rmt_config.specs.declared.config.Memory.TheVariants.{Without, Exact, Ternary}
use Rattle.rmt_config.specs.declared.form.names.part_list.Part.{Part}
use Rattle.rmt_config.specs.declared.form.names.part_list.TableParts.{TableParts}
use Rattle.rmt_config.specs.TableStands.{TableStands}
use Rattle.rmt_config.specs.declared.form.names.prefix_rows.Row.{Row}
use Rattle.rmt_config.specs.LaneForm.{bits_of_lanes}
use Rattle.rmt_config.specs.Rooms.{PartAt, parts_of}
use Rattle.rmt_config.specs.PartStands.{PartStands}
use Rattle.rmt_config.specs.PartsTold.{listed_numbers, part_at, parts_at}
use Rattle.rmt_config.specs.TableForm.{is_ternary}
use Rattle.rmt_config.specs.NamesForm.{each_later, each_part, entries_by_cell, entry_in, has_keys_once, has_order, has_prefixes, held_by, is_filled_so, is_of_kind, prefix_length, rank_in, stands_in_candidates, tests_of_key}
use Rattle.rmt_config.specs.PrefixRows.{have_lengths, have_same, length_in, row_goes_first, row_in, rows_keep, rows_of, stand_once}
use Rattle.rmt_config.proofs.SpelledParts.{parts-stand}
use Rattle.rmt_config.proofs.SpelledRanks.{entries-count, later-map}
use Rattle.rmt_config.proofs.SpelledRows.{all-stand}
use Rattle.rmt_config.proofs.SpelledTernary.{filled_as, of-kind}
use Rattle.rmt_config.proofs.RiseLaws.{one_off}

-- ---- the entries of a table, by its rows

module _ (c : Config) (t : TableName) where
  each-cell : {B : Type 0} (f : Entry → B) (g : Row → B) (p : PartAt) → ((n : CellNumber) → f (entry_in c t p n) ≡ g (row_in c p n)) → (ns : List CellNumber)
      → map f (map (entry_in c t p) ns) ≡ map g (map (row_in c p) ns)
  each-cell f g p same [] = refl
  each-cell f g p same (n ∷ ns) =
      ap (λ b. b ∷ map f (map (entry_in c t p) ns)) (same n) ∙ ap (λ bs. g (row_in c p n) ∷ bs) (each-cell f g p same ns)

  each-row : {B : Type 0} (f : Entry → B) (g : Row → B) → ((p : PartAt) (n : CellNumber) → f (entry_in c t p n) ≡ g (row_in c p n)) → (ps : List PartAt)
      → map f (flat_map (λ (p : PartAt). map (entry_in c t p) p.slot.numbers) ps) ≡ map g (rows_of c ps)
  each-row f g same [] = refl
  each-row f g same (p ∷ ps) =
      let here = map (entry_in c t p) p.slot.numbers in
      let rest = flat_map (λ (p : PartAt). map (entry_in c t p) p.slot.numbers) ps in
      let rows = map (row_in c p) p.slot.numbers in
      map-append f here rest
      ∙ ap (λ bs. bs ++ map f rest) (each-cell f g p (same p) p.slot.numbers)
      ∙ ap (λ bs. map g rows ++ bs) (each-row f g same ps)
      ∙ sym (map-append g rows (rows_of c ps))

  -- what each entry keeps with each later one, its row does
  later-rows : {B : Type 0} (R : B → B → Bool) (f : Entry → B) (g : Row → B) → ((p : PartAt) (n : CellNumber) → f (entry_in c t p n) ≡ g (row_in c p n))
      → each_later (λ a b. R (f a) (f b)) (entries_by_cell c t) ≡ each_later (λ a b. R (g a) (g b)) (rows_of c (parts_of c t.node))
  later-rows R f g same =
      later-map R f (entries_by_cell c t) ∙ ap (each_later R) (each-row f g same (parts_of c t.node)) ∙ sym (later-map R g (rows_of c (parts_of c t.node)))

-- ---- masks

parts-pass : (c : Config) (rule : Row → Bool) (ps : List PartAt) → list_all (λ (p : PartAt). list_all (λ n. rule (row_in c p n)) p.slot.numbers) ps ≡ list_all rule (rows_of c ps)
parts-pass c rule [] = refl
parts-pass c rule (p ∷ ps) =
    ap (λ b. b && list_all (λ (p : PartAt). list_all (λ n. rule (row_in c p n)) p.slot.numbers) ps) (sym (list_all-map rule (row_in c p) p.slot.numbers))
    ∙ ap (λ b. list_all rule (map (row_in c p) p.slot.numbers) && b) (parts-pass c rule ps)
    ∙ sym (list_all-append rule (map (row_in c p) p.slot.numbers) (rows_of c ps))

sum-one : (w : ℕ) → sum (w ∷ []) ≡ w
sum-one w = sum_by-cons (λ x. x) w [] ∙ omega arith

-- ---- order

abbrev ranks_fall : RankOf → RankOf → Bool
ranks_fall a b = ltb b.rank a.rank || (eqb a.rank b.rank && ltb a.number b.number)

abbrev row_rank : ℕ → Row → RankOf
row_rank w r = record { number = r.number; rank = length_in w r }

-- ---- keys

abbrev row_tests : ℕ → Row → List Test
row_tests w r = tests_of_key (w ∷ []) r.key r.mask

tests-tell : (w : ℕ) (a b : Row) → not (are_same (row_tests w a) (row_tests w b)) ≡ not (have_same w a b)
tests-tell w a b =
    let keys = eqb (slice a.key 0 w) (slice b.key 0 w) in
    let masks = eqb (slice a.mask 0 w) (slice b.mask 0 w) in
    ap (λ x. not (x && (masks && true))) (and-true keys) ∙ ap (λ x. not (keys && x)) (and-true masks)

rows-once : (w : ℕ) (rows : List Row) → each_later (λ a b. not (are_same (row_tests w a) (row_tests w b))) rows ≡ stand_once w rows
rows-once w rows =
    ap (λ (R : Row → Row → Bool). each_later R rows)
    (funext (λ a b. not (are_same (row_tests w a) (row_tests w b))) (λ a b. not (have_same w a b))
    (λ a. funext (λ b. not (are_same (row_tests w a) (row_tests w b))) (λ b. not (have_same w a b)) (tests-tell w a)))

-- ---- the table

shape : (m n o r s : Bool) → s ≡ true → ((m && true) && (n && o && r && s)) ≡ (n && (m && r && o))
shape m n o r s e = rw e (by m n o r)
  where
    by : (m n o r : Bool) → ((m && true) && (n && o && r && true)) ≡ (n && (m && r && o))
    by true true true true = refl
    by true true true false = refl
    by true true false true = refl
    by true true false false = refl
    by true false o r = refl
    by false true o r = refl
    by false false o r = refl

pub prefix-answer : (c : Config) (t : TableName) (w : ℕ) → t.kind ≡ kind.Prefix → t.keys ≡ w ∷ [] → list_all (stands_in_candidates c) (parts_of c t.node) ≡ true
    → is_filled_so c t ≡ (leb (length (listed_numbers (parts_of c t.node))) t.size && rows_keep w (rows_of c (parts_of c t.node)))
prefix-answer c t w is one stand =
    let es = entries_by_cell c t in
    let ps = parts_of c t.node in
    let rows = rows_of c ps in
    let width : sum t.keys ≡ w = ap (λ (ws : List ℕ). sum ws) one ∙ sum-one w in
    let masks : has_prefixes c t ≡ have_lengths w rows =
    ap (λ bits. list_all (λ (p : PartAt). list_all (λ n. is_some (prefix_length bits (held_by c p n).mask)) p.slot.numbers) ps) width
    ∙ parts-pass c (λ (r : Row). is_some (prefix_length w r.mask)) ps in
    let order : has_order kind.Prefix es ≡ each_later (row_goes_first w) rows =
    later-rows c t ranks_fall rank_of (row_rank w)
    (λ p n. ap (λ (k : Kind). record { number = n.number; rank = rank_in k t (held_by c p n).mask n.number }) is
    ∙ ap (λ bits. record { number = n.number; rank = unwrap_or (prefix_length bits (held_by c p n).mask) 0 }) width) in
    let once : has_keys_once kind.Prefix es ≡ stand_once w rows =
    later-rows c t (λ a b. not (are_same a b)) (λ (e : Entry). e.tests) (row_tests w)
    (λ p n. ap (λ (ws : List ℕ). tests_of_key ws (held_by c p n).key (held_by c p n).mask) one)
    ∙ rows-once w rows in
    ap (filled_as c t) is
    ∙ shape (has_prefixes c t) (leb (length es) t.size) (has_keys_once kind.Prefix es) (has_order kind.Prefix es) (each_part c (stands_in_candidates c) t) stand
    ∙ ap (λ n. leb n t.size && (has_prefixes c t && has_order kind.Prefix es && has_keys_once kind.Prefix es)) (entries-count c t)
    ∙ ap (λ b. leb (length (listed_numbers ps)) t.size && (b && has_order kind.Prefix es && has_keys_once kind.Prefix es)) masks
    ∙ ap (λ b. leb (length (listed_numbers ps)) t.size && (have_lengths w rows && b && has_keys_once kind.Prefix es)) order
    ∙ ap (λ b. leb (length (listed_numbers ps)) t.size && (have_lengths w rows && each_later (row_goes_first w) rows && b)) once

-- ---- the parts of a prefix table

-- a prefix is of one field, of at most 128 bits
pub record OneKey (t : TableName) : Type 0 where
  pub width : ℕ
  pub is : t.keys ≡ width ∷ []
  pub low : width ≤ 128

one-key_of : (t : TableName) (ws : List ℕ) → t.keys ≡ ws → eqb (length ws) 1 ≡ true → list_all (λ w. leb 1 w && leb w 128) ws ≡ true → OneKey t
one-key_of t [] e l h = absurd (let k = eqb-true 0 1 l in omega (arith, k))
one-key_of t (w ∷ []) e l h = record { width = w; is = e; low = leb-true w 128 (and_parts (leb 1 w) (leb w 128) (and_parts (leb 1 w && leb w 128) true h).0).1 }
one-key_of t (w ∷ v ∷ ws) e l h = absurd (let k = eqb-true (length (w ∷ v ∷ ws)) 1 l in omega (arith, k))

pub one-key : (t : TableName) → t.kind ≡ kind.Prefix → table_is_formed t ≡ true → OneKey t
one-key t is h =
    let fields = and_parts _ _ (and_parts _ _ (and_parts _ _ (and_parts _ _ h).0).0).0 in
    one-key_of t t.keys refl (sym (ap (λ (k : Kind). has_fields k t.keys) is) ∙ fields.1) (and_parts _ _ fields.0).1

pub record PrefixPart (c : Config) (p : PartAt) : Type 0 where
  pub stands : PartStands c p
  pub kind : is_of_kind kind.Prefix p.slot.memory ≡ true
  pub short : bits_of_lanes p.slot.keys ≤ 128

prefix-all : (c : Config) (bits : ℕ) (ps : List PartAt) → bits ≤ 128 → All (PartStands c) ps → list_all (λ (p : PartAt). is_of_kind kind.Prefix p.slot.memory) ps ≡ true
    → list_all (λ (p : PartAt). eqb bits (bits_of_lanes p.slot.keys)) ps ≡ true → All (PrefixPart c) ps
prefix-all c bits [] le stand kinds same = All-nil (PrefixPart c)
prefix-all c bits (p ∷ ps) le stand kinds same =
    let two = and_parts (is_of_kind kind.Prefix p.slot.memory) (list_all (λ (p : PartAt). is_of_kind kind.Prefix p.slot.memory) ps) kinds in
    let three = and_parts (eqb bits (bits_of_lanes p.slot.keys)) (list_all (λ (p : PartAt). eqb bits (bits_of_lanes p.slot.keys)) ps) same in
    All-cons (PrefixPart c) p ps
    (record {
      stands = All-head (PartStands c) p ps stand;
      kind = two.0;
      short = subst (λ n. n ≤ 128) (eqb-true bits (bits_of_lanes p.slot.keys) three.0) le;
    })
    (prefix-all c bits ps le (All-tail (PartStands c) p ps stand) two.1 three.1)

prefix-memory : (m : Memory) → is_of_kind kind.Prefix m ≡ true → is_ternary m ≡ true
prefix-memory Without e = e
prefix-memory (Exact k p d w ks rs cs) e = e
prefix-memory (Ternary d ks rs cs) e = e

-- ---- the parts as they are gone over

module _ (of : TableParts) (stands : TableStands of) (is : of.table.now.kind ≡ kind.Prefix) (alone : table_is_formed of.table.now ≡ true) where
  key : OneKey of.table.now
  key = one-key of.table.now is alone

  pub key-one : length of.table.now.keys ≡ 1
  key-one = ap (λ (ws : List ℕ). length ws) key.is

  key-bits : sum of.table.now.keys ≡ key.width
  key-bits = ap (λ (ws : List ℕ). sum ws) key.is ∙ sum-one key.width

  pub key-low : sum of.table.now.keys ≤ 128
  key-low = subst (λ n. n ≤ 128) (sym key-bits) key.low

  all-prefix : All (PrefixPart of.config.now) (parts_of of.config.now of.table.now.node)
  all-prefix =
      prefix-all of.config.now (sum of.table.now.keys) (parts_of of.config.now of.table.now.node) key-low (parts-stand of.config.now of.table.now.node stands.items stands.memory) (of-kind of.config.now of.table.now kind.Prefix is stands.has)
      (and_parts _ _ (and_parts _ _ stands.made).0).0

  pub prefix-at : (i : ℕ) (x : Part) → i < length of.parts.now → x ≡ get_or of.parts.now i x → PrefixPart of.config.now (part_at x)
  prefix-at i x lt at =
      subst (λ y. PrefixPart of.config.now (part_at y)) (sym at)
      (All-unmap (PrefixPart of.config.now) part_at of.parts.now (subst (All (PrefixPart of.config.now)) (sym stands.parts) all-prefix) i x lt)

  prefix-told : is_filled_so of.config.now of.table.now ≡ (leb (length (listed_numbers (parts_of of.config.now of.table.now.node))) of.table.now.size && rows_keep key.width (rows_of of.config.now (parts_of of.config.now of.table.now.node)))
  prefix-told =
      prefix-answer of.config.now of.table.now key.width is key.is
      (all-stand of.config.now (is_of_kind kind.Prefix) prefix-memory (parts_of of.config.now of.table.now.node) (parts-stand of.config.now of.table.now.node stands.items stands.memory) (of-kind of.config.now of.table.now kind.Prefix is stands.has))

  pub prefix-full : of.table.now.size < length of.numbers.now → false ≡ is_filled_so of.config.now of.table.now
  prefix-full lt =
      sym (prefix-told
      ∙ ap (λ (ns : List ℕ). leb (length ns) of.table.now.size && rows_keep key.width (rows_of of.config.now (parts_of of.config.now of.table.now.node))) (sym stands.numbers)
      ∙ ap (λ b. b && rows_keep key.width (rows_of of.config.now (parts_of of.config.now of.table.now.node))) (lt-leb (length of.numbers.now) of.table.now.size lt))

  pub prefix-filled : (bits : ℕ) (rows : List Row) → length of.numbers.now ≤ of.table.now.size → bits ≡ sum of.table.now.keys
      → rows ≡ rows_of of.config.now (parts_of of.config.now of.table.now.node) → rows_keep bits rows ≡ is_filled_so of.config.now of.table.now
  prefix-filled bits rows le one h =
      ap (λ n. rows_keep n rows) (one ∙ key-bits) ∙ ap (rows_keep key.width) h
      ∙ sym (prefix-told
      ∙ ap (λ (ns : List ℕ). leb (length ns) of.table.now.size && rows_keep key.width (rows_of of.config.now (parts_of of.config.now of.table.now.node))) (sym stands.numbers)
      ∙ ap (λ b. b && rows_keep key.width (rows_of of.config.now (parts_of of.config.now of.table.now.node))) (le-leb (length of.numbers.now) of.table.now.size le))

-- the rows of a part more
pub rows-next : (c : Config) (old new : List Row) (parts : List Part) (i : ℕ) (x : Part) (whole : List Row) → i < length parts → x ≡ get_or parts i x
    → new ≡ old ++ map (row_in c (part_at x)) (part_at x).slot.numbers → old ++ rows_of c (parts_at (drop i parts)) ≡ whole
    → new ++ rows_of c (parts_at (drop (i + 1) parts)) ≡ whole
rows-next c old new parts i x whole lt at e h =
    let here = map (row_in c (part_at x)) (part_at x).slot.numbers in
    let rest = rows_of c (parts_at (drop (i + 1) parts)) in
    ap (λ (rs : List Row). rs ++ rest) e ∙ append_assoc old here rest
    ∙ ap (λ (rs : List Row). old ++ rs) (sym (ap (λ (ps : List Part). rows_of c (parts_at ps)) (one_off parts i x lt ∙ ap (λ y. y ∷ drop (i + 1) parts) (sym at))))
    ∙ h

pub rows-all : (c : Config) (rows : List Row) (rest : List Part) (whole : List Row) → rest ≡ [] → rows ++ rows_of c (parts_at rest) ≡ whole → rows ≡ whole
rows-all c rows rest whole none h = sym (append-nil rows) ∙ ap (λ (ps : List Part). rows ++ rows_of c (parts_at ps)) (sym none) ∙ h

-- the sum of one number
pub first-sum : (ws : List ℕ) → length ws ≡ 1 → get_or ws 0 0 ≡ sum ws
first-sum [] e = absurd (omega (arith, e))
first-sum (w ∷ []) e = sym (sum-one w)
first-sum (w ∷ v ∷ ws) e = absurd (omega (arith, e))
