-- What a packet slot holds, from one age to the next.
use Rattle.std.proofs.Common.{◌≡◌, ◌≢◌, ℕ, ◌+◌, ◌<◌, ◌≤◌, true, List, [], ◌∷◌, length, get_or, Option, sym, ap, ◌∙◌, subst, ⊎_elim, arith}
use Rattle.std.specs.Prelude.{unwrap_or, slice_index}
use Rattle.std.proofs.Common.{Vec, Global}
use Rattle.std.proofs.Math.Path.{fun_ext}
use Rattle.std.proofs.lemmas.List.{get_or_default}
use Rattle.std.proofs.lemmas.Bool.{cases_lt, cases_eq}
use Rattle.rmt_chip.specs.Types.{Stage}
use Rattle.rmt_config.specs.Life.{Look, Words, Acts, Running, life_of, acts_of, word_after}
use Rattle.rmt_chip.specs.declared.packet_slot.PacketSlot.{PacketSlot}
use Rattle.rmt_chip.specs.declared.pending.Pending.{Pending}
use Rattle.rmt_memory.specs.declared.looked.Looked.{Looked}
use Rattle.rmt_chip.specs.declared.ran.Ran.{Ran}
use Rattle.rmt_chip.specs.declared.write.Write.{Write}
use Rattle.rmt_memory.specs.Looked.{AllLooked}
use Rattle.rmt_chip.specs.Ran.{all_running}
use Rattle.rmt_chip.specs.Runnable.{start_of}
use Rattle.rmt_chip.specs.Lives.{upto, acts_at}
use Rattle.rmt_chip.specs.Pending.{looked_at, running_at, due_at}
use Rattle.rmt_chip.specs.Writes.{last_on, applied}
use Rattle.rmt_chip.specs.Held.{is_accepted, Carried, ReadBy, DecidedBy, LookedBy}
use Rattle.rmt_chip.proofs.LifeLaws.{Rise, word_written, word_unwritten, words_upto, outcomes_more, start_of-get}
use Rattle.rmt_chip.proofs.WriteLaws.{applied-word, length-applied}

-- no stage acts, so many cycles after its start, at this age
abbrev pub NoneAt : List Stage → ℕ → ℕ → Type 0
NoneAt stages after age = (j : ℕ) → j < length stages → start_of stages j + after ≢ age

-- the four ages of a packet slot: words, operands, outcomes, and the bound of look-ups
pub carried_write : (look : Look) (stages : List Stage) (vector : List ℕ) → Rise stages → (k t l : ℕ) (old new : PacketSlot) → k < length stages → start_of stages k + 12 ≡ t + 1
    → new.vector ≡ applied (due_at old.pending.items k) old.vector → new.outcomes ≡ old.outcomes → new.pending ≡ old.pending
    → Carried look stages vector t t t l old → Carried look stages vector (t + 1) t t l new
carried_write look stages vector rise k t l old new inside at v o p held =
    let whole = life_of look stages vector in
    let s = start_of stages k in
    let t11 : t ≡ s + 11 = omega arith in
    let same : new.pending.items ≡ old.pending.items = ap (λ (x : Vec Pending Global). x.items) p in
    record {
      all_words = ap length v ∙ length-applied (due_at old.pending.items k) old.vector ∙ held.all_words;
      words = λ w.
          let d = first stages (omega arith) in
          let run = (acts_at look stages vector k (get_or stages k d)).running in
          ap (λ (ws : List ℕ). slice_index ws w) v
          ∙ applied-word (due_at old.pending.items k) old.vector w held.all_words
          ∙ ap (λ (x : Option ℕ). unwrap_or x (slice_index old.vector w)) (held.due k d inside (omega arith) (omega arith) w)
          ∙ ap (λ (x : ℕ). unwrap_or (word_after run (whole.word (s + 9)) w) x) (held.words w ∙ ap (λ (n : ℕ). whole.word n w) t11)
          ∙ sym (word_written look stages vector rise k w d inside)
          ∙ ap (λ (n : ℕ). whole.word n w) at;
      looked = λ j d b early late. subst (λ (x : List Pending). AllLooked look j (whole.word (start_of stages j)) (get_or stages j d) (looked_at x j)) (sym same) (held.looked j d b early late);
      running = λ j d b e late. ap (λ (x : List Pending). all_running (get_or stages j d).code (looked_at x j) (running_at x j)) same ∙ held.running j d b e late;
      due = λ j d b early late w. ap (λ (x : List Pending). last_on (due_at x j) w) same ∙ held.due j d b early (omega arith) w;
      outcomes = λ j b before after. o ∙ held.outcomes j b before after;
    }
  where
    first : (xs : List Stage) → 0 < length xs → Stage
    first [] h = absurd (omega (arith, h))
    first (x ∷ xs) h = x

pub carried_write_none : (look : Look) (stages : List Stage) (vector : List ℕ) (t l : ℕ) (place : PacketSlot) → NoneAt stages 12 (t + 1)
    → Carried look stages vector t t t l place → Carried look stages vector (t + 1) t t l place
carried_write_none look stages vector t l place none held = record {
  all_words = held.all_words;
  words = λ w. held.words w ∙ sym (word_unwritten look stages vector t w none);
  looked = held.looked;
  running = held.running;
  due = λ j d b early late w. held.due j d b early (omega arith) w;
  outcomes = held.outcomes;
}

starts_differ : (stages : List Stage) → Rise stages → (j k : ℕ) → j < length stages → k < length stages → j ≢ k → start_of stages j ≢ start_of stages k
starts_differ stages rise j k hj hk apart e =
    ⊎_elim
    (λ (h : j < k). let less : start_of stages j < start_of stages k = rise j k h hk in absurd (omega arith))
    (λ (h : k ≤ j). let less : start_of stages k < start_of stages j = rise k j (omega arith) hj in absurd (omega arith))
    (cases_lt j k)

pub carried_read : (look : Look) (stages : List Stage) (vector : List ℕ) → Rise stages → (k t l : ℕ) (stage : Stage) (old new : PacketSlot) → k < length stages → get_or stages k stage ≡ stage → start_of stages k + 9 ≡ t + 1
    → ReadBy k stage old new → is_accepted old.parsed ≡ true
    → Carried look stages vector (t + 1) t t l old → Carried look stages vector (t + 1) (t + 1) t l new
carried_read look stages vector rise k t l stage old new inside is at reads accepted held =
    let whole = life_of look stages vector in
    let s = start_of stages k in
    record {
      all_words = ap length reads.so_far.vector ∙ held.all_words;
      words = λ w. ap (λ (ws : List ℕ). slice_index ws w) reads.so_far.vector ∙ held.words w;
      looked = λ j d b early late. subst (λ (x : List Looked). AllLooked look j (whole.word (start_of stages j)) (get_or stages j d) x) (sym (reads.looked j)) (held.looked j d b early (omega arith));
      running = λ j d b e late.
          ap (λ (x : List Looked). all_running (get_or stages j d).code x (running_at new.pending.items j)) (reads.looked j)
          ∙ ap (λ (x : List Ran). all_running (get_or stages j d).code (looked_at old.pending.items j) x) (reads.running j)
          ∙ held.running j d b e (omega arith);
      due = λ j d b early late w.
          ⊎_elim
          (λ (e : j ≡ k).
          let same : get_or stages j d ≡ stage = ap (λ n. get_or stages n d) e ∙ get_or_default stages k d stage inside ∙ is in
          let words : (λ v. slice_index old.vector v) ≡ whole.word (start_of stages j + 9) =
          fun_ext held.words ∙ ap whole.word (sym at ∙ ap (λ n. start_of stages n + 9) (sym e)) in
          let here : start_of stages j ≡ s = ap (start_of stages) e in
          let run : all_running stage.code (looked_at old.pending.items k) (running_at old.pending.items k) ≡ (acts_at look stages vector j (get_or stages j d)).running =
          ap (λ (x : Stage). all_running x.code (looked_at old.pending.items k) (running_at old.pending.items k)) (sym same)
          ∙ ap (λ n. all_running (get_or stages j d).code (looked_at old.pending.items n) (running_at old.pending.items n)) (sym e)
          ∙ held.running j d b (omega arith) (omega arith) in
          ap (λ n. last_on (due_at new.pending.items n) w) e ∙ reads.read accepted w
          ∙ ap (λ (rs : List Running). word_after rs (λ v. slice_index old.vector v) w) run
          ∙ ap (λ (ws : ℕ → ℕ). word_after (acts_at look stages vector j (get_or stages j d)).running ws w) words)
          (λ (apart : j ≢ k).
          let differ : start_of stages j ≢ s = starts_differ stages rise j k b inside apart in
          ap (λ (x : List Write). last_on x w) (reads.others j apart) ∙ held.due j d b (omega arith) late w)
          (cases_eq j k);
      outcomes = λ j b before after. reads.so_far.outcomes ∙ held.outcomes j b before after;
    }

pub carried_read_none : (look : Look) (stages : List Stage) (vector : List ℕ) (t l : ℕ) (place : PacketSlot) → NoneAt stages 9 (t + 1)
    → Carried look stages vector (t + 1) t t l place → Carried look stages vector (t + 1) (t + 1) t l place
carried_read_none look stages vector t l place none held = record {
  all_words = held.all_words;
  words = held.words;
  looked = λ j d b early late. held.looked j d b early (omega arith);
  running = λ j d b e late. held.running j d b e (omega arith);
  due = λ j d b early late w. let apart : start_of stages j + 9 ≢ t + 1 = none j b in held.due j d b (omega arith) late w;
  outcomes = held.outcomes;
}

-- where a stage is about to set outcomes: what its units read, and what they make of it
pub record Ready (look : Look) (k : ℕ) (stage : Stage) (words : Words) (acts : Acts) (place : PacketSlot) : Type 0 where
  pub looked : AllLooked look k words stage (looked_at place.pending.items k)
  pub acts_are : acts_of look k stage words place.outcomes ≡ acts

pub ready : (look : Look) (stages : List Stage) (vector : List ℕ) → Rise stages → (k t : ℕ) (stage : Stage) (place : PacketSlot) → k < length stages → get_or stages k stage ≡ stage → start_of stages k + 8 ≡ t + 1
    → Carried look stages vector (t + 1) (t + 1) t (t + 1) place → Ready look k stage ((upto look stages vector k).word stage.start) (acts_at look stages vector k stage) place
unfolding acts_at
ready look stages vector rise k t stage place inside is at held =
    let lives = upto look stages vector in
    let s = start_of stages k in
    let start : stage.start ≡ s = ap (λ (x : Stage). x.start) (sym is) ∙ start_of-get stages k stage inside in
    let before : place.outcomes ≡ (lives k).outcomes =
    held.outcomes k (omega arith) (λ j h. let less : start_of stages j < s = rise j k h inside in omega arith) (λ _. omega arith) in
    let words : (life_of look stages vector).word s ≡ (lives k).word stage.start =
    fun_ext (words_upto look stages vector rise k s inside (omega arith)) ∙ ap (lives k).word (sym start) in
    let read : AllLooked look k ((life_of look stages vector).word s) (get_or stages k stage) (looked_at place.pending.items k) = held.looked k stage inside (omega arith) (omega arith) in
    record {
      looked = subst (λ (x : Stage). AllLooked look k ((lives k).word stage.start) x (looked_at place.pending.items k)) is
          (subst (λ (ws : Words). AllLooked look k ws (get_or stages k stage) (looked_at place.pending.items k)) words read);
      acts_are = ap (λ (os : List ℕ). acts_of look k stage ((lives k).word stage.start) os) before;
    }

pub carried_act : (look : Look) (stages : List Stage) (vector : List ℕ) → Rise stages → (k t : ℕ) (stage : Stage) (old new : PacketSlot) → k < length stages → get_or stages k stage ≡ stage → start_of stages k + 8 ≡ t + 1
    → DecidedBy k stage old new → is_accepted old.parsed ≡ true
    → Carried look stages vector (t + 1) (t + 1) t (t + 1) old → Carried look stages vector (t + 1) (t + 1) (t + 1) (t + 1) new
carried_act look stages vector rise k t stage old new inside is at acts accepted held =
    let lives = upto look stages vector in
    let s = start_of stages k in
    let set = ready look stages vector rise k t stage old inside is at held in
    let decides = acts.decided accepted look k ((lives k).word stage.start) set.looked in
    let whole = set.acts_are in
    record {
      all_words = ap length acts.vector ∙ held.all_words;
      words = λ w. ap (λ (ws : List ℕ). slice_index ws w) acts.vector ∙ held.words w;
      looked = λ j d b early late. subst (λ (x : List Looked). AllLooked look j ((life_of look stages vector).word (start_of stages j)) (get_or stages j d) x) (sym (acts.looked j)) (held.looked j d b early late);
      running = λ j d b e late.
          let here : j ≡ k = ⊎_elim (λ (h : j ≡ k). h) (λ (apart : j ≢ k). let differ : start_of stages j ≢ s = starts_differ stages rise j k b inside apart in absurd (omega arith)) (cases_eq j k) in
          let same : get_or stages j d ≡ stage = ap (λ n. get_or stages n d) here ∙ get_or_default stages k d stage inside ∙ is in
          ap (λ n. all_running (get_or stages j d).code (looked_at new.pending.items n) (running_at new.pending.items n)) here
          ∙ ap (λ (x : Stage). all_running x.code (looked_at new.pending.items k) (running_at new.pending.items k)) same ∙ decides.running_are ∙ ap (λ (a : Acts). a.running) whole
          ∙ sym (ap (λ (x : Stage). (acts_at look stages vector k x).running) same)
          ∙ sym (ap (λ n. (acts_at look stages vector n (get_or stages j d)).running) here);
      due = λ j d b early late w. ap (λ (x : List Write). last_on x w) (acts.due j) ∙ held.due j d b early late w;
      outcomes = λ j b earlier later.
          let least : k < j = ⊎_elim (λ (h : k < j). h) (λ (h : j ≤ k). let grown : start_of stages j ≤ s = grow stages rise j k h inside in let l : t + 1 < start_of stages j + 8 = later (omega arith) in absurd (omega arith)) (cases_lt k j) in
          let most : j ≤ k + 1 = ⊎_elim (λ (h : k + 1 < j). let e : start_of stages (k + 1) + 8 ≤ t + 1 = earlier (k + 1) h in let less : s < start_of stages (k + 1) = rise k (k + 1) (omega arith) (omega arith) in absurd (omega arith)) (λ (h : j ≤ k + 1). h) (cases_lt (k + 1) j) in
          let here : j ≡ k + 1 = omega arith in
          decides.outcomes_are ∙ ap (λ (a : Acts). a.outcomes) whole
          ∙ sym (ap (λ (x : Stage). (acts_at look stages vector k x).outcomes) is)
          ∙ sym (outcomes_more look stages vector k stage inside)
          ∙ sym (ap (λ n. (lives n).outcomes) here);
    }
  where
    grow : (xs : List Stage) → Rise xs → (a b : ℕ) → a ≤ b → b < length xs → start_of xs a ≤ start_of xs b
    grow xs r a b h hb =
        ⊎_elim
        (λ (e : a < b). let less : start_of xs a < start_of xs b = r a b e hb in omega arith)
        (λ (e : b ≤ a). let same : a ≡ b = omega arith in subst (λ n. start_of xs a ≤ start_of xs n) same (omega arith))
        (cases_lt a b)

pub carried_act_none : (look : Look) (stages : List Stage) (vector : List ℕ) (t : ℕ) (place : PacketSlot) → NoneAt stages 8 (t + 1)
    → Carried look stages vector (t + 1) (t + 1) t (t + 1) place → Carried look stages vector (t + 1) (t + 1) (t + 1) (t + 1) place
carried_act_none look stages vector t place none held = record {
  all_words = held.all_words;
  words = held.words;
  looked = held.looked;
  running = λ j d b e late. absurd (none j b e);
  due = held.due;
  outcomes = λ j b before after. held.outcomes j b
      (λ i h. let apart : start_of stages i + 8 ≢ t + 1 = none i (omega arith) in let e : start_of stages i + 8 ≤ t + 1 = before i h in omega arith)
      (λ h. let e : t + 1 < start_of stages j + 8 = after h in omega arith);
}

-- the look-ups of a stage at its start
pub carried_look : (look : Look) (stages : List Stage) (vector : List ℕ) → Rise stages → (k t : ℕ) (stage : Stage) (old new : PacketSlot) → k < length stages → get_or stages k stage ≡ stage → start_of stages k ≡ t
    → LookedBy look k stage old new → is_accepted old.parsed ≡ true
    → Carried look stages vector t t t t old → Carried look stages vector t t t (t + 1) new
carried_look look stages vector rise k t stage old new inside is at looks accepted held =
    let whole = life_of look stages vector in
    record {
      all_words = ap length looks.so_far.vector ∙ held.all_words;
      words = λ w. ap (λ (ws : List ℕ). slice_index ws w) looks.so_far.vector ∙ held.words w;
      looked = λ j d b early late.
          ⊎_elim
          (λ (e : j ≡ k).
          let same : get_or stages j d ≡ stage = ap (λ n. get_or stages n d) e ∙ get_or_default stages k d stage inside ∙ is in
          let words : (λ v. slice_index old.vector v) ≡ whole.word (start_of stages j) = fun_ext held.words ∙ ap whole.word (sym at ∙ ap (start_of stages) (sym e)) in
          subst (λ (x : Stage). AllLooked look j (whole.word (start_of stages j)) x (looked_at new.pending.items j)) (sym same)
          (subst (λ (ws : Words). AllLooked look j ws stage (looked_at new.pending.items j)) words
          (subst (λ n. AllLooked look n (λ v. slice_index old.vector v) stage (looked_at new.pending.items n)) (sym e) (looks.looked accepted))))
          (λ (apart : j ≢ k).
          let differ : start_of stages j ≢ start_of stages k = starts_differ stages rise j k b inside apart in
          subst (λ (x : List Looked). AllLooked look j (whole.word (start_of stages j)) (get_or stages j d) x) (sym (looks.others j apart)) (held.looked j d b (omega arith) late))
          (cases_eq j k);
      running = λ j d b e late.
          ⊎_elim
          (λ (h : j ≡ k). let here : start_of stages j ≡ start_of stages k = ap (start_of stages) h in absurd (omega arith))
          (λ (apart : j ≢ k).
          ap (λ (x : List Looked). all_running (get_or stages j d).code x (running_at new.pending.items j)) (looks.others j apart)
          ∙ ap (λ (x : List Ran). all_running (get_or stages j d).code (looked_at old.pending.items j) x) (looks.running j)
          ∙ held.running j d b e late)
          (cases_eq j k);
      due = λ j d b early late w. ap (λ (x : List Write). last_on x w) (looks.due j) ∙ held.due j d b early late w;
      outcomes = λ j b before after. looks.so_far.outcomes ∙ held.outcomes j b before after;
    }

pub carried_look_none : (look : Look) (stages : List Stage) (vector : List ℕ) (t : ℕ) (place : PacketSlot) → NoneAt stages 0 t
    → Carried look stages vector t t t t place → Carried look stages vector t t t (t + 1) place
carried_look_none look stages vector t place none held = record {
  all_words = held.all_words;
  words = held.words;
  looked = λ j d b early late. let apart : start_of stages j + 0 ≢ t = none j b in held.looked j d b (omega arith) late;
  running = held.running;
  due = held.due;
  outcomes = held.outcomes;
}
