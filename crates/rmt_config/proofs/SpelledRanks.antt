-- The ranks that names tell of the entries of a ternary table.
use Rattle.std.proofs.Common.{◌≡◌, ℕ, suc, ◌+◌, ◌&&◌, Some, List, [], ◌∷◌, ◌++◌, length, map, Bool, true, false, cond, eqb, option_map, unwrap_or, refl, sym, ap, ◌∙◌, subst}
use Rattle.std.specs.List.{AllByRecursion, IsDistinct, find, flat_map, list_all, enumerate_from}
use Rattle.std.proofs.lemmas.Bool.{eq-eqb}
use Rattle.std.proofs.lemmas.List.{map-append}
use Rattle.std.proofs.lemmas.List.Concat.{flat_map-append}
use Rattle.std.proofs.lemmas.List.Folds.{list_all-map}
use Rattle.std.proofs.lemmas.Map.Keys.{IsDistinct-head, IsDistinct-tail, IsDistinct-cons}
use Rattle.rmt_ast.specs.declared.names.RankOf.{RankOf}
use Rattle.rmt_ast.specs.declared.names.TableName.{TableName}
use Rattle.rmt_ast.specs.declared.program.Kind.TheVariants as kind
use Rattle.rmt_ast.specs.declared.entry.Entry.{Entry}
use Rattle.rmt_ast.specs.Naming.{rank_of}
use Rattle.rmt_config.specs.Types.{Config, Stage, Unit, CellNumber}
use Rattle.rmt_config.specs.declared.config.Unit.TheVariants.{Gate, Slot}
use Rattle.rmt_config.specs.CellForm.{numbers_of_unit, numbers_of_stage, entry_numbers, entries_are_numbered}
use Rattle.rmt_config.specs.Rooms.{PartAt, parts_among, parts_of}
use Rattle.rmt_config.specs.PartsTold.{listed_numbers}
use Rattle.rmt_config.specs.NamesForm.{rank_told, rank_in, held_by, entry_in, entries_by_cell, each_later}
use Rattle.rmt_config.proofs.NumberLaws.{distinct_from}

-- ---- no number of a table stands twice

pub data Sub : List ℕ → List ℕ → Type 0 where
  none : Sub [] []
  keeps : (n : ℕ) (xs ys : List ℕ) → Sub xs ys → Sub (n ∷ xs) (n ∷ ys)
  skips : (n : ℕ) (xs ys : List ℕ) → Sub xs ys → Sub xs (n ∷ ys)

sub-same : (xs : List ℕ) → Sub xs xs
sub-same [] = none
sub-same (x ∷ xs) = keeps x xs xs (sub-same xs)

sub-nil : (xs : List ℕ) → Sub [] xs
sub-nil [] = none
sub-nil (x ∷ xs) = skips x [] xs (sub-nil xs)

sub-append : (xs ys us vs : List ℕ) → Sub xs ys → Sub us vs → Sub (xs ++ us) (ys ++ vs)
sub-append _ _ us vs none t = t
sub-append _ _ us vs (keeps n xs ys s) t = keeps n (xs ++ us) (ys ++ vs) (sub-append xs ys us vs s t)
sub-append _ _ us vs (skips n xs ys s) t = skips n (xs ++ us) (ys ++ vs) (sub-append xs ys us vs s t)

sub-all : (P : ℕ → Type 0) (xs ys : List ℕ) → Sub xs ys → AllByRecursion P ys → AllByRecursion P xs
sub-all P _ _ none h = tt
sub-all P _ _ (keeps n xs ys s) h = (h.0, sub-all P xs ys s h.1)
sub-all P _ _ (skips n xs ys s) h = sub-all P xs ys s h.1

sub-distinct : (xs ys : List ℕ) → Sub xs ys → IsDistinct eqb ys → IsDistinct eqb xs
sub-distinct _ _ none d = d
sub-distinct _ _ (keeps n xs ys s) d =
    IsDistinct-cons eqb n xs (sub-all (λ y. eqb n y ≡ false) xs ys s (IsDistinct-head eqb n ys d)) (sub-distinct xs ys s (IsDistinct-tail eqb n ys d))
sub-distinct _ _ (skips n xs ys s) d = sub-distinct xs ys s (IsDistinct-tail eqb n ys d)

slot-sub : (p : PartAt) (rest : List PartAt) (ns : List ℕ) (b : Bool) → Sub (listed_numbers rest) ns
    → Sub (listed_numbers ((cond b (p ∷ []) []) ++ rest)) (map (λ (n : CellNumber). n.number) p.slot.numbers ++ ns)
slot-sub p rest ns true more =
    let here = map (λ (n : CellNumber). n.number) p.slot.numbers in
    sub-append here here (listed_numbers rest) ns (sub-same here) more
slot-sub p rest ns false more =
    let here = map (λ (n : CellNumber). n.number) p.slot.numbers in
    sub-append [] here (listed_numbers rest) ns (sub-nil here) more

units-sub : (node k place first : ℕ) (units : List Unit) → Sub (listed_numbers (parts_among node k place first units)) (flat_map numbers_of_unit units)
units-sub node k place first [] = none
units-sub node k place first (Gate g ∷ units) = units-sub node k (place + 1) first units
units-sub node k place first (Slot s ∷ units) =
    slot-sub (record { stage = k; place = place; first = first; slot = s }) (parts_among node k (place + 1) (first + s.actions + 1) units) (flat_map numbers_of_unit units)
    (eqb s.node node) (units-sub node k (place + 1) (first + s.actions + 1) units)

stages-sub : (node k : ℕ) (stages : List Stage)
    → Sub (listed_numbers (flat_map (λ (x : ℕ × Stage). parts_among node x.0 0 0 x.1.units) (enumerate_from k stages))) (flat_map numbers_of_stage stages)
stages-sub node k [] = none
stages-sub node k (stage ∷ stages) =
    let here = parts_among node k 0 0 stage.units in
    let rest = flat_map (λ (x : ℕ × Stage). parts_among node x.0 0 0 x.1.units) (enumerate_from (k + 1) stages) in
    subst (λ ns. Sub ns (numbers_of_stage stage ++ flat_map numbers_of_stage stages))
    (sym (flat_map-append (λ (part : PartAt). map (λ (n : CellNumber). n.number) part.slot.numbers) here rest))
    (sub-append (listed_numbers here) (numbers_of_stage stage) (listed_numbers rest) (flat_map numbers_of_stage stages) (units-sub node k 0 0 stage.units) (stages-sub node (k + 1) stages))

pub listed-distinct : (c : Config) (node : ℕ) → entries_are_numbered c ≡ true → IsDistinct eqb (listed_numbers (parts_of c node))
listed-distinct c node h = sub-distinct (listed_numbers (parts_of c node)) (entry_numbers c) (stages-sub node 0 c.stages) (distinct_from [] (entry_numbers c) h).1

-- ---- the ranks of entries

abbrev pub rank_with : List RankOf → ℕ → RankOf
rank_with ranks n = record { number = n; rank = rank_told ranks n }

told-behind : (x : RankOf) (xs : List RankOf) (ns : List ℕ) → AllByRecursion (λ n. eqb x.number n ≡ false) ns → map (rank_with (x ∷ xs)) ns ≡ map (rank_with xs) ns
told-behind x xs [] h = refl
told-behind x xs (n ∷ ns) h =
    let here : rank_with (x ∷ xs) n ≡ rank_with xs n =
    ap (λ b. record { number = n; rank = unwrap_or (option_map (λ (r : RankOf). r.rank) (cond b (Some x) (find (λ (r : RankOf). eqb r.number n) xs))) 0 }) h.0 in
    ap (λ r. r ∷ map (rank_with (x ∷ xs)) ns) here ∙ ap (λ rs. rank_with xs n ∷ rs) (told-behind x xs ns h.1)

pub told-all : (ranks : List RankOf) → IsDistinct eqb (map (λ (r : RankOf). r.number) ranks) → map (rank_with ranks) (map (λ (r : RankOf). r.number) ranks) ≡ ranks
told-all [] d = refl
told-all (x ∷ xs) d =
    let ns = map (λ (r : RankOf). r.number) xs in
    let here : rank_with (x ∷ xs) x.number ≡ x =
    ap (λ b. record { number = x.number; rank = unwrap_or (option_map (λ (r : RankOf). r.rank) (cond b (Some x) (find (λ (r : RankOf). eqb r.number x.number) xs))) 0 }) (eq-eqb x.number x.number refl) in
    ap (λ r. r ∷ map (rank_with (x ∷ xs)) ns) here
    ∙ ap (λ rs. x ∷ rs) (told-behind x xs ns (IsDistinct-head eqb x.number ns d) ∙ told-all xs (IsDistinct-tail eqb x.number ns d))

-- ---- the entries of a table by what is told of each

pub each_cell : {A B : Type 0} (f : A → B) (g : CellNumber → A) (h : ℕ → B) → ((n : CellNumber) → f (g n) ≡ h n.number) → (ns : List CellNumber)
    → map f (map g ns) ≡ map h (map (λ (n : CellNumber). n.number) ns)
each_cell f g h same [] = refl
each_cell f g h same (n ∷ ns) = ap (λ b. b ∷ map f (map g ns)) (same n) ∙ ap (λ bs. h n.number ∷ bs) (each_cell f g h same ns)

pub each_entry : {A B : Type 0} (f : A → B) (g : PartAt → CellNumber → A) (h : ℕ → B) → ((p : PartAt) (n : CellNumber) → f (g p n) ≡ h n.number) → (ps : List PartAt)
    → map f (flat_map (λ (p : PartAt). map (g p) p.slot.numbers) ps) ≡ map h (listed_numbers ps)
each_entry f g h same [] = refl
each_entry f g h same (p ∷ ps) =
    let here = map (g p) p.slot.numbers in
    let rest = flat_map (λ (p : PartAt). map (g p) p.slot.numbers) ps in
    let ns = map (λ (n : CellNumber). n.number) p.slot.numbers in
    map-append f here rest
    ∙ ap (λ bs. bs ++ map f rest) (each_cell f (g p) h (same p) p.slot.numbers)
    ∙ ap (λ bs. map h ns ++ bs) (each_entry f g h same ps)
    ∙ sym (map-append h ns (listed_numbers ps))

pub map-same : (ns : List ℕ) → map (λ n. n) ns ≡ ns
map-same [] = refl
map-same (n ∷ ns) = ap (λ ms. n ∷ ms) (map-same ns)

length-map : {A B : Type 0} (f : A → B) (xs : List A) → length (map f xs) ≡ length xs
length-map f [] = refl
length-map f (x ∷ xs) = ap suc (length-map f xs)

-- the numbers of the entries are those that are listed, and so they are as many
pub entries-numbered : (c : Config) (t : TableName) → map (λ (e : Entry). e.number) (entries_by_cell c t) ≡ listed_numbers (parts_of c t.node)
entries-numbered c t = each_entry (λ (e : Entry). e.number) (entry_in c t) (λ n. n) (λ p n. refl) (parts_of c t.node) ∙ map-same (listed_numbers (parts_of c t.node))

pub entries-count : (c : Config) (t : TableName) → length (entries_by_cell c t) ≡ length (listed_numbers (parts_of c t.node))
entries-count c t = sym (length-map (λ (e : Entry). e.number) (entries_by_cell c t)) ∙ ap length (entries-numbered c t)

-- the ranks of the entries of a ternary table are those that are told
pub ranks-told : (c : Config) (t : TableName) → t.kind ≡ kind.Ternary → map rank_of (entries_by_cell c t) ≡ map (rank_with t.ranks) (listed_numbers (parts_of c t.node))
ranks-told c t is = each_entry rank_of (entry_in c t) (rank_with t.ranks) (λ p n. ap (λ k. record { number = n.number; rank = rank_in k t (held_by c p n).mask n.number }) is) (parts_of c t.node)

pub later-map : {A B : Type 0} (R : B → B → Bool) (f : A → B) (xs : List A) → each_later (λ a b. R (f a) (f b)) xs ≡ each_later R (map f xs)
later-map R f [] = refl
later-map R f (x ∷ xs) = ap (λ b. b && each_later (λ a b. R (f a) (f b)) xs) (sym (list_all-map (R (f x)) f xs)) ∙ ap (λ b. list_all (R (f x)) (map f xs) && b) (later-map R f xs)
