-- What cells hold after a chain is put or given back.
use Rattle.std.proofs.Common.{◌≡◌, ℕ, ◌+◌, ◌-◌, ◌<◌, ◌≤◌, List, [], ◌∷◌, ◌++◌, length, take, get_or, set, Contains, refl, ap, sym, ◌∙◌, subst, ⊎_elim, ◌⊎◌, arith}
use Rattle.std.proofs.lemmas.Bool.{cases_lt}
use Rattle.std.proofs.lemmas.List.{length-set}
use Rattle.std.proofs.lemmas.List.Elements.{Contains-append_left, Contains-append_right, Contains-append_cases}
use Rattle.std.proofs.lemmas.List.Concat.{flat_map-cons}
use Rattle.std.proofs.lemmas.Grind.{flat_map-append}
use Rattle.std.proofs.lemmas.List.Sums.{sum_by-append, sum_by-cons}
use Rattle.rmt_bits.proofs.MemberLaws.{Contains-later, Contains-split}
use Rattle.rmt_cells.specs.declared.cells.Cells.{Cells}
use Rattle.rmt_cells.specs.Links.{after, walk, times}
use Rattle.rmt_cells.specs.Pieces.{IsRun, Spell, cells_for, piece}
use Rattle.rmt_cells.specs.Stands.{Held, Holds, Stands, chain_cells, held_cells, free_cells}
use Rattle.rmt_cells.proofs.Walks.{times_append, times_plus, times_shorter, walk_kept, after_kept, walk_joined, reached}

pub held_cons : (links : List ℕ) (h : Held) (hs : List Held) (cell : ℕ) → times cell (held_cells links (h ∷ hs)) ≡ times cell (chain_cells links h) + times cell (held_cells links hs)
held_cons links h hs cell = ap (times cell) (flat_map-cons (chain_cells links) h hs) ∙ times_append cell (chain_cells links h) (held_cells links hs)

held_append : (links : List ℕ) (xs ys : List Held) (cell : ℕ) → times cell (held_cells links (xs ++ ys)) ≡ times cell (held_cells links xs) + times cell (held_cells links ys)
held_append links xs ys cell = ap (times cell) (flat_map-append (chain_cells links) xs ys) ∙ times_append cell (held_cells links xs) (held_cells links ys)

-- a chain that is held has no cell more often than all chains
chain_part : (links : List ℕ) (hs : List Held) (x : Held) (cell : ℕ) → Contains hs x → times cell (chain_cells links x) ≤ times cell (held_cells links hs)
chain_part links [] x cell (k, lt, is) = absurd (omega arith)
chain_part links (h ∷ hs) x cell there =
    ⊎_elim
    (λ (same : h ≡ x).
    let here = ap (λ (y : Held). times cell (chain_cells links y)) same in
    omega (arith, held_cons links h hs cell, here))
    (λ (later : Contains hs x).
    let rest = chain_part links hs x cell later in
    omega (arith, held_cons links h hs cell, rest))
    (Contains-split h hs x there)

-- each cell stands at most once
module _ (count : ℕ) (held : List Held) (s : Cells) (stands : Stands count held s) where
  total : (cell : ℕ) → times cell (free_cells s) + times cell (held_cells s.links.items held) ≤ 1
  total cell =
      let split = times_append cell (free_cells s) (held_cells s.links.items held) in
      ⊎_elim
      (λ below. let one = stands.once cell below in omega (arith, split, one))
      (λ past. let none = stands.within cell past in omega (arith, split, none))
      (cases_lt cell count)

  outside : (cell : ℕ) → count ≤ cell → times cell (free_cells s) + times cell (held_cells s.links.items held) ≡ 0
  outside cell past =
      let split = times_append cell (free_cells s) (held_cells s.links.items held) in
      let none = stands.within cell past in
      omega (arith, split, none)

  -- the first free cells are a run
  pub free_run : (n : ℕ) → n ≤ s.free → IsRun count s.links.items s.first n
  free_run n le = record {
    once = λ cell. let shorter = times_shorter cell s.links.items s.first n s.free le in let most = total cell in omega (arith, shorter, most);
    within = λ cell past. let shorter = times_shorter cell s.links.items s.first n s.free le in let none = outside cell past in omega (arith, shorter, none);
  }

  -- and so are the cells of a chain
  pub chain_run : (x : Held) → Contains held x → IsRun count s.links.items x.chain.first (cells_for (length x.bytes))
  chain_run x there = record {
    once = λ cell. let part = chain_part s.links.items held x cell there in let most = total cell in omega (arith, part, most);
    within = λ cell past. let part = chain_part s.links.items held x cell there in let none = outside cell past in omega (arith, part, none);
  }

  -- a cell of a chain is not free
  pub not_free : (x : Held) (i : ℕ) → Contains held x → i < cells_for (length x.bytes) → times (after s.links.items x.chain.first i) (free_cells s) ≡ 0
  not_free x i there lt =
      let cell = after s.links.items x.chain.first i in
      let part = chain_part s.links.items held x cell there in
      let here = reached s.links.items x.chain.first (cells_for (length x.bytes)) i lt in
      let most = total cell in
      omega (arith, part, here, most)

-- Bytes are put into the first free cells.
module _ (count : ℕ) (held : List Held) (s new : Cells) (bytes : List ℕ) (stands : Stands count held s) (some : 0 < length bytes)
    (enough : cells_for (length bytes) ≤ s.free) (links : new.links.items ≡ s.links.items)
    (first : new.first ≡ after s.links.items s.first (cells_for (length bytes))) (free : new.free ≡ s.free - cells_for (length bytes))
    (size : length new.blocks.items ≡ length s.blocks.items) (written : Spell new.blocks.items s.links.items s.first bytes)
    (others : (cell : ℕ) → times cell (walk s.links.items s.first (cells_for (length bytes))) ≡ 0 → get_or new.blocks.items cell [] ≡ get_or s.blocks.items cell []) where
  abbrev need : ℕ
  need = cells_for (length bytes)

  abbrev put : Held
  put = record { chain = record { first = s.first; len = length bytes }; bytes = bytes }

  still_free : free_cells new ≡ walk s.links.items (after s.links.items s.first need) (s.free - need)
  still_free =
      ap (λ (ls : List ℕ). walk ls new.first new.free) links
      ∙ ap (λ (cell : ℕ). walk s.links.items cell new.free) first
      ∙ ap (λ (n : ℕ). walk s.links.items (after s.links.items s.first need) n) free

  same_times : (cell : ℕ) → times cell (free_cells new ++ held_cells new.links.items (put ∷ held)) ≡ times cell (free_cells s ++ held_cells s.links.items held)
  same_times cell =
      let l = s.links.items in
      let now = times_append cell (free_cells new) (held_cells new.links.items (put ∷ held)) in
      let left = ap (times cell) still_free in
      let chains = ap (λ (ls : List ℕ). times cell (held_cells ls (put ∷ held))) links ∙ held_cons l put held cell in
      let all : s.free ≡ need + (s.free - need) = omega (arith, enough) in
      let was = times_append cell (free_cells s) (held_cells l held) in
      let parts = ap (λ (n : ℕ). times cell (walk l s.first n)) all ∙ times_plus cell l s.first need (s.free - need) in
      omega (arith, now, left, chains, was, parts)

  put_holds : (x : Held) → Contains (put ∷ held) x → Holds new x
  put_holds x there =
      ⊎_elim
      (λ (same : put ≡ x).
      subst (Holds new) same
      (record { len = refl; some = some; bytes = subst (λ (ls : List ℕ). Spell new.blocks.items ls s.first bytes) (sym links) written }))
      (λ (later : Contains held x).
      let was = stands.holds x later in
      let spelt : Spell new.blocks.items s.links.items x.chain.first x.bytes =
      λ number lt.
      let cell = after s.links.items x.chain.first number in
      let none = not_free count held s stands x number later lt in
      let shorter = times_shorter cell s.links.items s.first need s.free enough in
      ap (take (length (piece x.bytes number))) (others cell (omega (arith, none, shorter))) ∙ was.bytes number lt in
      record { len = was.len; some = was.some; bytes = subst (λ (ls : List ℕ). Spell new.blocks.items ls x.chain.first x.bytes) (sym links) spelt })
      (Contains-split put held x there)

  pub put_stands : Stands count (put ∷ held) new
  put_stands = record {
    links = ap length links ∙ stands.links;
    blocks = size ∙ stands.blocks;
    few = stands.few;
    once = λ cell lt. same_times cell ∙ stands.once cell lt;
    within = λ cell past. same_times cell ∙ stands.within cell past;
    all = let sum = sum_by-cons (λ (h : Held). cells_for (length h.bytes)) put held in let was = stands.all in omega (arith, sum, was, free, enough);
    holds = put_holds;
  }

-- chains without a cell stay where its link is changed
held_kept : (links : List ℕ) (cell link : ℕ) (hs : List Held) → times cell (held_cells links hs) ≡ 0 → held_cells (set links cell link) hs ≡ held_cells links hs
held_kept links cell link [] none = refl
held_kept links cell link (h ∷ hs) none =
    let split = held_cons links h hs cell in
    let here : times cell (chain_cells links h) ≡ 0 = omega (arith, split, none) in
    let later : times cell (held_cells links hs) ≡ 0 = omega (arith, split, none) in
    flat_map-cons (chain_cells (set links cell link)) h hs
    ∙ ap (λ (cells : List ℕ). cells ++ held_cells (set links cell link) hs) (walk_kept links cell link h.chain.first (cells_for (length h.bytes)) here)
    ∙ ap (λ (cells : List ℕ). chain_cells links h ++ cells) (held_kept links cell link hs later)
    ∙ sym (flat_map-cons (chain_cells links) h hs)

pub contains_middle : (front back : List Held) (h : Held) → Contains (front ++ h ∷ back) h
contains_middle front back h = Contains-append_right front (h ∷ back) h (0, omega arith, refl)

-- The cells of a chain go before those that are free.
module _ (count : ℕ) (front back : List Held) (h : Held) (s new : Cells) (stands : Stands count (front ++ h ∷ back) s)
    (links : new.links.items ≡ set s.links.items (after s.links.items h.chain.first (cells_for (length h.bytes) - 1)) s.first)
    (first : new.first ≡ h.chain.first) (free : new.free ≡ s.free + cells_for (length h.bytes)) (blocks : new.blocks.items ≡ s.blocks.items) where
  abbrev had : ℕ
  had = cells_for (length h.bytes)

  abbrev end : ℕ
  end = after s.links.items h.chain.first (had - 1)

  abbrev linked : List ℕ
  linked = set s.links.items end s.first

  there : Contains (front ++ h ∷ back) h
  there = contains_middle front back h

  has_cells : 0 < had
  has_cells = let some = (stands.holds h there).some in omega (arith, some)

  -- how often a cell stands in all chains
  parts : (cell : ℕ) → times cell (held_cells s.links.items (front ++ h ∷ back)) ≡ times cell (chain_cells s.links.items h) + times cell (held_cells s.links.items (front ++ back))
  parts cell =
      let l = s.links.items in
      let all = held_append l front (h ∷ back) cell in
      let here = held_cons l h back cell in
      let rest = held_append l front back cell in
      omega (arith, all, here, rest)

  -- the last cell is neither free nor in another chain
  end_not_free : times end (free_cells s) ≡ 0
  end_not_free = not_free count (front ++ h ∷ back) s stands h (had - 1) there (omega (arith, has_cells))

  end_not_held : times end (held_cells s.links.items (front ++ back)) ≡ 0
  end_not_held =
      let here = reached s.links.items h.chain.first had (had - 1) (omega (arith, has_cells)) in
      let most = total count (front ++ h ∷ back) s stands end in
      omega (arith, here, most, parts end)

  now_free : free_cells new ≡ chain_cells s.links.items h ++ free_cells s
  now_free =
      let sum : new.free ≡ had + s.free = omega (arith, free) in
      ap (λ (ls : List ℕ). walk ls new.first new.free) links
      ∙ ap (λ (cell : ℕ). walk linked cell new.free) first
      ∙ ap (λ (n : ℕ). walk linked h.chain.first n) sum
      ∙ walk_joined count s.links.items h.chain.first had s.first s.free has_cells stands.links (chain_run count (front ++ h ∷ back) s stands h there) end_not_free

  as_before : held_cells new.links.items (front ++ back) ≡ held_cells s.links.items (front ++ back)
  as_before =
      ap (λ (ls : List ℕ). held_cells ls (front ++ back)) links ∙ held_kept s.links.items end s.first (front ++ back) end_not_held

  times_same : (cell : ℕ) → times cell (free_cells new ++ held_cells new.links.items (front ++ back)) ≡ times cell (free_cells s ++ held_cells s.links.items (front ++ h ∷ back))
  times_same cell =
      let now = times_append cell (free_cells new) (held_cells new.links.items (front ++ back)) in
      let left = ap (times cell) now_free ∙ times_append cell (chain_cells s.links.items h) (free_cells s) in
      let chains = ap (times cell) as_before in
      let was = times_append cell (free_cells s) (held_cells s.links.items (front ++ h ∷ back)) in
      omega (arith, now, left, chains, was, parts cell)

  still_there : (x : Held) → Contains (front ++ back) x → Contains (front ++ h ∷ back) x
  still_there x is =
      ⊎_elim (λ (before : Contains front x). Contains-append_left front (h ∷ back) x before)
      (λ (later : Contains back x). Contains-append_right front (h ∷ back) x (Contains-later h back x later))
      (Contains-append_cases front back x is)

  still_holds : (x : Held) → Contains (front ++ back) x → Holds new x
  still_holds x is =
      let l = s.links.items in
      let was = stands.holds x (still_there x is) in
      let part = chain_part l (front ++ back) x end is in
      let none : times end (chain_cells l x) ≡ 0 = omega (arith, part, end_not_held) in
      let spelt : Spell s.blocks.items linked x.chain.first x.bytes =
      λ number lt.
      let shorter = times_shorter end l x.chain.first number (cells_for (length x.bytes)) (omega (arith, lt)) in
      let same : after linked x.chain.first number ≡ after l x.chain.first number = after_kept l end s.first x.chain.first number (omega (arith, shorter, none)) in
      ap (λ (cell : ℕ). take (length (piece x.bytes number)) (get_or s.blocks.items cell [])) same ∙ was.bytes number lt in
      record {
        len = was.len;
        some = was.some;
        bytes = subst (λ (ls : List ℕ). Spell new.blocks.items ls x.chain.first x.bytes) (sym links)
            (subst (λ (bs : List (List ℕ)). Spell bs linked x.chain.first x.bytes) (sym blocks) spelt);
      }

  pub given_back : Stands count (front ++ back) new
  given_back = record {
    links = ap length links ∙ length-set s.links.items end s.first ∙ stands.links;
    blocks = ap length blocks ∙ stands.blocks;
    few = stands.few;
    once = λ cell lt. times_same cell ∙ stands.once cell lt;
    within = λ cell past. times_same cell ∙ stands.within cell past;
    all =
        let was = stands.all in
        let a = sum_by-append (λ (x : Held). cells_for (length x.bytes)) front (h ∷ back) in
        let b = sum_by-cons (λ (x : Held). cells_for (length x.bytes)) h back in
        let d = sum_by-append (λ (x : Held). cells_for (length x.bytes)) front back in
        omega (arith, was, a, b, d, free);
    holds = still_holds;
  }
