-- What one more unit of a stage does.
use Rattle.std.proofs.Common.{◌≡◌, ℕ, ◌+◌, ◌-◌, ◌<◌, ◌≤◌, Bool, true, false, cond, List, [], ◌∷◌, ◌++◌, length, get_or, set, take, map, reverse, Option, Some, None, refl, sym, ap, subst, ◌∙◌, append_assoc, append-nil, tests, arith}
use Rattle.std.specs.Prelude.{fold, nat_lt, slice_get, unwrap_or, option_map}
use Rattle.std.proofs.lemmas.Bool.{false≢true}
use Rattle.std.proofs.lemmas.List.{map_push, reverse-append}
use Rattle.std.proofs.lemmas.List.Sums.{fold_more}
use Rattle.std.proofs.lemmas.Option.{slice_get-get_or}
use Rattle.rmt_bits.specs.Bits.{number_of}
use Rattle.rmt_bits.specs.Counts.{Hit, counts}
use Rattle.rmt_bits.specs.declared.answer.Count.{Count}
use Rattle.rmt_config.proofs.InstructionLaws.{first_code_next}
use Rattle.rmt_chip.specs.Types.{Stage, Unit, SlotUnit}
use Rattle.rmt_config.specs.declared.config.Unit.TheVariants.{Gate, Slot}
use Rattle.rmt_config.specs.Cells.{Found}
use Rattle.rmt_config.specs.Instructions.{first_code, unit_instructions}
use Rattle.rmt_config.specs.Life.{Look, Words, Acts, Running, Counted, unit_acts, slot_acts, code_at}
use Rattle.rmt_memory.specs.declared.looked.Looked.{Looked}
use Rattle.rmt_chip.specs.declared.ran.Ran.{Ran}
use Rattle.rmt_memory.specs.Looked.{Finds, LookedFor, AllLooked}
use Rattle.rmt_chip.specs.Counting.{hits_made}
use Rattle.rmt_chip.specs.Ran.{held_of, running_of, all_running, CountsAlso, HaveDone}

-- ---- what runs, and what is counted

running_more : (stage : Stage) (looked : List Looked) (running : List Ran) (r : Ran) → all_running stage.code looked (running ++ r ∷ []) ≡ running_of stage.code looked r ∷ all_running stage.code looked running
running_more stage looked running r =
    ap (λ (xs : List Running). reverse xs) (map_push (running_of stage.code looked) running r)
    ∙ reverse-append (map (running_of stage.code looked) running) (running_of stage.code looked r ∷ [])

held_at : (looked : List Looked) (i : ℕ) (d : Looked) → i < length looked → held_of looked i ≡ number_of (get_or looked i d).held.items
held_at looked i d inside = ap (λ (o : Option Looked). unwrap_or (option_map (λ (l : Looked). number_of l.held.items) o) 0) (slice_get-get_or looked i d inside)

made_more : (bytes : ℕ) (made : List Counted) (one : Counted) → hits_made bytes (one ∷ made) ≡ hits_made bytes made ++ record { number = one.number; bytes = bytes } ∷ []
made_more bytes made one =
    ap (map (λ (c : Counted). record { number = c.number; bytes = bytes })) (reverse-append (one ∷ []) made)
    ∙ map_push (λ (c : Counted). record { number = c.number; bytes = bytes }) (reverse made) one

pub also_more : (a b c : List Count) (m n : List Hit) → CountsAlso a b m → CountsAlso b c n → CountsAlso a c (m ++ n)
also_more a b c m n one two numbers hits were =
    two numbers (hits ++ m) (one numbers hits were) ∙ ap (λ (hs : List Hit). counts numbers hs) (append_assoc hits m n)

-- a hit that is counted where hits are
abbrev pub one_if : Bool → ℕ → ℕ → List Hit
one_if counted number bytes = cond counted (record { number = number; bytes = bytes } ∷ []) []

also_if : (bytes : ℕ) (a b c : List Count) (made : List Counted) (one : Counted) (n : ℕ) (counted : Bool) → (counted ≡ true → n ≡ one.number)
    → CountsAlso a b (hits_made bytes made) → CountsAlso b c (one_if counted n bytes) → CountsAlso a c (hits_made bytes (cond counted (one ∷ made) made))
also_if bytes a b c made one n true same was now =
    subst (λ (hs : List Hit). CountsAlso a c hs)
    (ap (λ (m : ℕ). hits_made bytes made ++ record { number = m; bytes = bytes } ∷ []) (same refl) ∙ sym (made_more bytes made one))
    (also_more a b c (hits_made bytes made) (one_if true n bytes) was now)
also_if bytes a b c made one n false same was now =
    subst (λ (hs : List Hit). CountsAlso a c hs) (append-nil (hits_made bytes made)) (also_more a b c (hits_made bytes made) [] was now)

-- ---- slots

-- a slot that found an entry
pub slot_found : (stage : Stage) (slot : SlotUnit) (found : Option Found) (looked : List Looked) (unit : ℕ) (d : Looked) (bytes base : ℕ) (first before after : List Count) (acts : Acts) (outcomes : List ℕ) (running : List Ran)
    → unit < length looked → Finds slot.counted found (get_or looked unit d) → (get_or looked unit d).hit ≡ true
    → CountsAlso before after (one_if slot.counted (get_or looked unit d).number bytes)
    → HaveDone stage looked bytes first acts outcomes running before
    → HaveDone stage looked bytes first (slot_acts stage base slot found acts) (set outcomes slot.node (2 + ((get_or looked unit d).code - base)))
    (running ++ record { code = (get_or looked unit d).code; unit = unit; found = true } ∷ []) after
slot_found stage slot None looked unit d bytes base first before after acts outcomes running inside finds hit counts was = absurd (false≢true (sym finds ∙ hit))
slot_found stage slot (Some f) looked unit d bytes base first before after acts outcomes running inside finds hit counts was =
    let one = get_or looked unit d in
    let value : one.code - base ≡ f.code - base = ap (λ (n : ℕ). n - base) finds.1 in
    let held : held_of looked unit ≡ f.held = held_at looked unit d inside ∙ finds.3 in
    record {
      outcomes_are = ap (λ (os : List ℕ). set os slot.node (2 + (one.code - base))) was.outcomes_are ∙ ap (λ (n : ℕ). set acts.outcomes slot.node (2 + n)) value;
      running_are =
          running_more stage looked running (record { code = one.code; unit = unit; found = true })
          ∙ ap (λ (n : ℕ). record { ops = code_at stage n; held = held_of looked unit } ∷ all_running stage.code looked running) finds.1
          ∙ ap (λ (n : ℕ). record { ops = code_at stage f.code; held = n } ∷ all_running stage.code looked running) held
          ∙ ap (λ (rs : List Running). record { ops = code_at stage f.code; held = f.held } ∷ rs) was.running_are;
      counted = also_if bytes first before after acts.counted (record { number = f.number; age = stage.start + 8 }) one.number slot.counted finds.2 was.counted counts;
    }

-- the last part of a table in which no entry was found
pub slot_missed : (stage : Stage) (slot : SlotUnit) (found : Option Found) (looked : List Looked) (one : Looked) (unit bytes base : ℕ) (first counters : List Count) (acts : Acts) (outcomes : List ℕ) (running : List Ran)
    → Finds slot.counted found one → one.hit ≡ false → slot.last ≡ true
    → HaveDone stage looked bytes first acts outcomes running counters
    → HaveDone stage looked bytes first (slot_acts stage base slot found acts) (set outcomes slot.node 1)
    (running ++ record { code = base + slot.actions; unit = unit; found = false } ∷ []) counters
slot_missed stage slot (Some f) looked one unit bytes base first counters acts outcomes running finds hit last was = absurd (false≢true (sym hit ∙ finds.0))
slot_missed stage slot None looked one unit bytes base first counters acts outcomes running finds hit last was =
    subst (λ (a : Acts). HaveDone stage looked bytes first a (set outcomes slot.node 1) (running ++ record { code = base + slot.actions; unit = unit; found = false } ∷ []) counters)
    (ap (λ (t : Bool). cond t (record acts {
      outcomes = set acts.outcomes slot.node 1;
      running = record { ops = code_at stage (base + slot.actions); held = 0 } ∷ acts.running;
    }) acts) (sym last))
    (record {
      outcomes_are = ap (λ (os : List ℕ). set os slot.node 1) was.outcomes_are;
      running_are =
          running_more stage looked running (record { code = base + slot.actions; unit = unit; found = false })
          ∙ ap (λ (rs : List Running). record { ops = code_at stage (base + slot.actions); held = 0 } ∷ rs) was.running_are;
      counted = was.counted;
    })

-- another part in which no entry was found does nothing
pub slot_rests : (stage : Stage) (slot : SlotUnit) (found : Option Found) (looked : List Looked) (one : Looked) (bytes base : ℕ) (first counters : List Count) (acts : Acts) (outcomes : List ℕ) (running : List Ran)
    → Finds slot.counted found one → one.hit ≡ false → slot.last ≡ false
    → HaveDone stage looked bytes first acts outcomes running counters
    → HaveDone stage looked bytes first (slot_acts stage base slot found acts) outcomes running counters
slot_rests stage slot (Some f) looked one bytes base first counters acts outcomes running finds hit last was = absurd (false≢true (sym hit ∙ finds.0))
slot_rests stage slot None looked one bytes base first counters acts outcomes running finds hit last was =
    subst (λ (a : Acts). HaveDone stage looked bytes first a outcomes running counters)
    (ap (λ (t : Bool). cond t (record acts {
      outcomes = set acts.outcomes slot.node 1;
      running = record { ops = code_at stage (base + slot.actions); held = 0 } ∷ acts.running;
    }) acts) (sym last))
    was

-- what was done by one test or the other
pub done_if : (stage : Stage) (looked : List Looked) (bytes : ℕ) (first counters : List Count) (one other : Acts) (outcomes : List ℕ) (running : List Ran) (test t : Bool) → test ≡ t
    → HaveDone stage looked bytes first (cond t one other) outcomes running counters → HaveDone stage looked bytes first (cond test one other) outcomes running counters
done_if stage looked bytes first counters one other outcomes running test t same done =
    subst (λ (b : Bool). HaveDone stage looked bytes first (cond b one other) outcomes running counters) (sym same) done

-- ---- units

-- the next unit stands elsewhere
pub moved : (stage : Stage) (looked : List Looked) (bytes : ℕ) (first counters : List Count) (acts : Acts) (outcomes : List ℕ) (running : List Ran) (place : ℕ)
    → HaveDone stage looked bytes first acts outcomes running counters → HaveDone stage looked bytes first (record acts { place = place }) outcomes running counters
moved stage looked bytes first counters acts outcomes running place was = record { outcomes_are = was.outcomes_are; running_are = was.running_are; counted = was.counted }

-- where the next unit stands
pub place_after : (look : Look) (k : ℕ) (stage : Stage) (words : Words) (a : Acts) (u : Unit) → (unit_acts look k stage words a u).place ≡ a.place + 1
place_after look k stage words a (Gate g) = refl
place_after look k stage words a (Slot s) = refl

-- ---- all units

-- the acts before the first unit
abbrev pub before_all : List ℕ → Acts
before_all outcomes = record { outcomes = outcomes; running = []; counted = []; place = 0 }

-- the acts of the first n units
abbrev pub acts_upto : Look → ℕ → Words → Stage → List ℕ → ℕ → Acts
acts_upto look k words stage before n = fold (unit_acts look k stage words) (before_all before) (take n stage.units)

-- what the first n units of a stage have done
pub record DoneUpto (look : Look) (k : ℕ) (words : Words) (stage : Stage) (looked : List Looked) (bytes : ℕ) (first : List Count) (n : ℕ) (before outcomes : List ℕ) (running : List Ran) (counters : List Count) (base : ℕ) : Type 0 where
  pub done : HaveDone stage looked bytes first (acts_upto look k words stage before n) outcomes running counters
  pub base_is : base ≡ first_code stage n
  pub place_is : (acts_upto look k words stage before n).place ≡ n

-- one more
pub upto_more : (look : Look) (k : ℕ) (words : Words) (stage : Stage) (looked : List Looked) (bytes : ℕ) (first : List Count) (n : ℕ) (before outcomes : List ℕ) (running : List Ran) (counters : List Count) (base : ℕ)
    (u : Unit) (d : Looked) (outcomes' : List ℕ) (running' : List Ran) (counters' : List Count) (base' : ℕ)
    → AllLooked look k words stage looked → n < length stage.units → get_or stage.units n u ≡ u
    → ((acts : Acts) → LookedFor look k acts.place words u (get_or looked n d) → base ≡ first_code stage acts.place → HaveDone stage looked bytes first acts outcomes running counters
    → HaveDone stage looked bytes first (unit_acts look k stage words acts u) outcomes' running' counters')
    → base' ≡ base + unit_instructions u
    → DoneUpto look k words stage looked bytes first n before outcomes running counters base
    → DoneUpto look k words stage looked bytes first (n + 1) before outcomes' running' counters' base'
upto_more look k words stage looked bytes first n before outcomes running counters base u d outcomes' running' counters' base' read inside at does next was =
    let a = acts_upto look k words stage before n in
    let unit : slice_get stage.units n ≡ Some u = slice_get-get_or stage.units n u inside ∙ ap Some at in
    let more : acts_upto look k words stage before (n + 1) ≡ unit_acts look k stage words a u =
    fold_more (unit_acts look k stage words) (before_all before) stage.units n u inside ∙ ap (unit_acts look k stage words a) at in
    let here : LookedFor look k a.place words u (get_or looked n d) =
    subst (λ (v : Unit). LookedFor look k a.place words v (get_or looked n d)) at
    (subst (λ (m : ℕ). LookedFor look k m words (get_or stage.units n u) (get_or looked n d)) (sym was.place_is) (read.each n u d inside)) in
    record {
      done = subst (λ (b : Acts). HaveDone stage looked bytes first b outcomes' running' counters') (sym more) (does a here (was.base_is ∙ sym (ap (first_code stage) was.place_is)) was.done);
      base_is = next ∙ ap (λ (m : ℕ). m + unit_instructions u) was.base_is ∙ sym (first_code_next stage n u unit);
      place_is = ap (λ (b : Acts). b.place) more ∙ place_after look k stage words a u ∙ ap (λ (m : ℕ). m + 1) was.place_is;
    }

pub high_test : (x : ℕ) → 16 ≤ x → nat_lt x 16 ≡ false
high_test x high = grind (arith, tests)
