-- Ports, one call later.
use Rattle.std.proofs.Common.{◌≡◌, ℕ, ◌+◌, ◌<◌, ◌≤◌, List, [], ◌∷◌, ◌++◌, Bool, cond, true, false, eqb, map, length, take, get_or, set, Some, None, Option, Vec, Global, refl, ap, sym, ◌∙◌, subst, ⊎_elim, arith}
use Rattle.std.specs.Prelude.{slice_get, option_map, unwrap_or, count_by, not, replicate, ◌&&◌}
use Rattle.std.specs.List.{list_any}
use Rattle.std.proofs.lemmas.Bool.{cases_eq, eq-eqb, ne_eqb}
use Rattle.std.proofs.lemmas.List.{append-nil, get_or-set_same, get_or-set_other, length-map, length-set, length_push, length-replicate, map-set}
use Rattle.rmt_pcap.specs.declared.capture.Capture.{Capture}
use Rattle.rmt_queues.specs.declared.queues.Offered.{Offered}
use Rattle.rmt_queues.specs.declared.queues.Offered.TheVariants.{CellsFull, Queued}
use Rattle.rmt_queues.specs.Calls.{Call, ItemCopy, after_all, given_by, held}
use Rattle.rmt_queues.specs.Calls.Call.{Offer, Take}
use Rattle.rmt_queues.specs.Lists.{Lists, fits, has_room, item_of, offer_answer, offered, queue_of, take_answer, taken}
use Rattle.rmt_queues.specs.Stands.{Stands}
use Rattle.rmt_queues.proofs.CallLaws.{many_on}
use Rattle.rmt_queues.proofs.CountLaws.{others_counted}
use Rattle.rmt_queues.proofs.EmptyLaws.{empty_queue}
use Rattle.rmt_queues.proofs.TakeLaws.{queue_other}
use Rattle.rmt_bits.proofs.WordLaws.{get_or-same}
use Rattle.rmt_switch.specs.declared.ports.Ports.{Ports}
use Rattle.rmt_switch.specs.Copies.{counted, dropped_by, dropped_of, refused_by, refused_of, sent_in, taken_by}
use Rattle.rmt_switch.specs.Ports.{Holds, file_at, file_text, start}
use Rattle.rmt_switch.proofs.CallLaws.{after_one, counted_one, given_nothing, queue_kept, sent_one, taken_nothing}

abbrev item_in : ItemCopy → List ℕ
item_in copy = copy.item

-- a queue that is empty stays so where an item is taken
still_empty : (s : Lists) (port other : ℕ) → queue_of s other ≡ [] → queue_of (taken s port) other ≡ []
still_empty s port other none =
    ⊎_elim
    (λ (same : other ≡ port).
    let here : queue_of s port ≡ [] = ap (queue_of s) (sym same) ∙ none in
    ap (λ (u : Lists). queue_of u other) (taken_nothing s port here) ∙ none)
    (λ (apart : other ≡ port → ⊥). queue_other s port other apart ∙ none)
    (cases_eq other port)

-- what a take counts, by the queue
abbrev one_if : List ℕ → ℕ
one_if queue = cond (eqb (length queue) 0) 0 1

one_there : (k : ℕ) (rest : List ℕ) → one_if (k ∷ rest) ≡ 1
one_there k rest = let more : eqb (length (k ∷ rest)) 0 ≡ false = ne_eqb (length (k ∷ rest)) 0 (λ e. omega (arith, e)) in rw more refl

-- ---- a port is passed over, or has nothing to take

module _ (capture : Capture) (calls : List Call) (p : Ports) (h : Holds capture calls p) (port : ℕ) (below : port < 512) where
  abbrev t : Lists
  t = after_all start calls

  -- ports behind a take of nothing
  pub passed_over : (new : Ports) → queue_of t port ≡ [] → Stands (taken t port) new.queues → length new.waiting.items ≡ 512
      → ((other : ℕ) → other < 512 → get_or new.waiting.items other true ≡ false → queue_of t other ≡ [])
      → length new.room.items ≡ 13320 → new.files ≡ p.files → new.out ≡ p.out → new.queue ≡ p.queue → new.cells ≡ p.cells → Holds capture (calls ++ Take port ∷ []) new
  passed_over new none stands all idle room files out queue cells =
      let same : after_all start (calls ++ Take port ∷ []) ≡ t = after_one start calls (Take port) ∙ taken_nothing t port none in
      let longer = length_push calls (Take port) in
      let nothing : taken_by t (Take port) ≡ 0 = ap one_if none in
      let few_out = h.few_out in
      let few_queue = h.few_queue in
      let few_cells = h.few_cells in
      record {
        queues = subst (λ (u : Lists). Stands u new.queues) (sym (after_one start calls (Take port))) stands;
        many = ap (λ (u : Lists). length u.queues) same ∙ h.many;
        all_waiting = all;
        idle = λ other lt e. ap (λ (u : Lists). queue_of u other) same ∙ idle other lt e;
        room = room;
        all_files = ap (λ (fs : Vec (Vec ℕ Global) Global). length fs.items) files ∙ h.all_files;
        files = λ other lt.
            ap (λ (fs : Vec (Vec ℕ Global) Global). file_at fs.items other) files ∙ h.files other lt
            ∙ ap (file_text capture) (sym (sent_one start calls (Take port) other ∙ ap (λ (cs : List ItemCopy). sent_in start calls other ++ map item_in cs) (given_nothing t port other none) ∙ append-nil (sent_in start calls other)));
        out = out ∙ h.out ∙ (let one = counted_one start calls (Take port) taken_by in omega (arith, one, nothing));
        queue = queue ∙ h.queue ∙ (let one = counted_one start calls (Take port) dropped_by in omega (arith, one));
        cells = cells ∙ h.cells ∙ (let one = counted_one start calls (Take port) refused_by in omega (arith, one));
        few_out = omega (arith, longer, few_out, out);
        few_queue = omega (arith, longer, few_queue, queue);
        few_cells = omega (arith, longer, few_cells, cells);
      }

-- a port that is passed over has nothing to take
pub skipped : (capture : Capture) (calls : List Call) (p : Ports) → Holds capture calls p → (port : ℕ) → port < 512 → get_or p.waiting.items port true ≡ false → Holds capture (calls ++ Take port ∷ []) p
skipped capture calls p h port below unmarked =
    let none = h.idle port below unmarked in
    passed_over capture calls p h port below p none (subst (λ (s : Lists). Stands s p.queues) (sym (taken_nothing (after_all start calls) port none)) h.queues)
    h.all_waiting h.idle h.room refl refl refl refl

-- a port that gave nothing is passed over from then on
pub nothing_first : (s : Lists) (port : ℕ) → take_answer s port ≡ None → queue_of s port ≡ []
nothing_first s port e = of_queue (queue_of s port) e
  where
    of_queue : (queue : List ℕ) → option_map (item_of s) (slice_get queue 0) ≡ None → queue ≡ []
    of_queue [] e = refl
    of_queue (k ∷ rest) e = absurd (cc)

module _ (capture : Capture) (calls : List Call) (p : Ports) (h : Holds capture calls p) (port : ℕ) (none : queue_of (after_all start calls) port ≡ []) where
  pub passes_on : (other : ℕ) → other < 512 → get_or (set p.waiting.items port false) other true ≡ false → queue_of (after_all start calls) other ≡ []
  passes_on other lt e =
      ⊎_elim
      (λ (same : other ≡ port). ap (queue_of (after_all start calls)) same ∙ none)
      (λ (apart : other ≡ port → ⊥). h.idle other lt (sym (get_or-set_other p.waiting.items port other false true apart) ∙ e))
      (cases_eq other port)

-- ---- an item is offered

-- what is marked: no port that is still passed over was before, or is among these
abbrev pub Marked : List Bool → List Bool → List ℕ → Type 0
Marked old new ports = (port : ℕ) → get_or new port true ≡ false → (get_or old port true ≡ false) × (list_any (λ p. eqb p port) ports ≡ false)

module _ (capture : Capture) (calls : List Call) (p : Ports) (h : Holds capture calls p) (ports item : List ℕ) where
  abbrev u : Lists
  u = after_all start calls

  pub offered_on : (new : Ports) (answer : Offered) → Stands (offered u ports item) new.queues → answer ≡ offer_answer u ports item → length ports ≤ 8
      → dropped_of answer ≤ 8 → length new.waiting.items ≡ length p.waiting.items → Marked p.waiting.items new.waiting.items ports
      → new.room ≡ p.room → new.files ≡ p.files → new.out ≡ p.out → new.queue ≡ p.queue + dropped_of answer → new.cells ≡ p.cells + refused_of (length ports) answer
      → Holds capture (calls ++ Offer ports item ∷ []) new
  offered_on new answer stands is few dropped many marked room files out queue cells =
      let call = Offer ports item in
      let same = after_one start calls call in
      let longer = length_push calls call in
      let few_out = h.few_out in
      let few_queue = h.few_queue in
      let few_cells = h.few_cells in
      let refused : refused_of (length ports) answer ≤ 8 = refused_few (length ports) answer few in
      record {
        queues = subst (λ (v : Lists). Stands v new.queues) (sym same) stands;
        many = ap (λ (v : Lists). length v.queues) same ∙ many_on u call ∙ h.many;
        all_waiting = many ∙ h.all_waiting;
        idle = λ other lt e.
            ap (λ (v : Lists). queue_of v other) same
            ∙ queue_kept u ports item other (let all = h.many in omega (arith, all, lt)) (marked other e).1 ∙ h.idle other lt (marked other e).0;
        room = ap (λ (r : Vec ℕ Global). length r.items) room ∙ h.room;
        all_files = ap (λ (fs : Vec (Vec ℕ Global) Global). length fs.items) files ∙ h.all_files;
        files = λ other lt.
            ap (λ (fs : Vec (Vec ℕ Global) Global). file_at fs.items other) files ∙ h.files other lt
            ∙ ap (file_text capture) (sym (sent_one start calls call other ∙ append-nil (sent_in start calls other)));
        out = out ∙ h.out ∙ (let one = counted_one start calls call taken_by in omega (arith, one));
        queue = queue ∙ ap (λ n. n + dropped_of answer) h.queue ∙ ap (λ a. counted dropped_by start calls + dropped_of a) is ∙ sym (counted_one start calls call dropped_by);
        cells = cells ∙ ap (λ n. n + refused_of (length ports) answer) h.cells ∙ ap (λ a. counted refused_by start calls + refused_of (length ports) a) is
            ∙ sym (counted_one start calls call refused_by);
        few_out = omega (arith, longer, few_out, out);
        few_queue = omega (arith, longer, few_queue, queue, dropped);
        few_cells = omega (arith, longer, few_cells, cells, refused);
      }
    where
      refused_few : (n : ℕ) (answer : Offered) → n ≤ 8 → refused_of n answer ≤ 8
      refused_few n CellsFull le = le
      refused_few n (Queued copies dropped) le = omega arith

-- how many copies are dropped: no more than were offered
pub dropped_few : (s : Lists) (ports item : List ℕ) (answer : Offered) → answer ≡ offer_answer s ports item → length ports ≤ 8 → dropped_of answer ≤ 8
dropped_few s ports item answer is few = subst (λ (a : Offered). dropped_of a ≤ 8) (sym is) (either (list_any (has_room s) ports && not (fits s item)))
  where
    most : count_by (λ port. not (has_room s port)) ports ≤ 8
    most = let all = others_counted (has_room s) ports in omega (arith, all, few)

    either : (b : Bool) → dropped_of (cond b CellsFull (Queued (count_by (has_room s) ports) (count_by (λ port. not (has_room s port)) ports))) ≤ 8
    either true = omega arith
    either false = most

-- ---- an item is taken and sent

-- the queue of a port that gives an item
first_of : (s : Lists) (port : ℕ) (item : List ℕ) → take_answer s port ≡ Some item → (k : ℕ) × (rest : List ℕ) × (queue_of s port ≡ k ∷ rest) × (item ≡ item_of s k)
first_of s port item e = of_queue (queue_of s port) e refl
  where
    of_queue : (queue : List ℕ) → option_map (item_of s) (slice_get queue 0) ≡ Some item → queue_of s port ≡ queue → (k : ℕ) × (rest : List ℕ) × (queue_of s port ≡ k ∷ rest) × (item ≡ item_of s k)
    of_queue [] e is = absurd (cc)
    of_queue (k ∷ rest) e is = (k, rest, is, sym (ap (λ (o : Option (List ℕ)). unwrap_or o []) e))

module _ (capture : Capture) (calls : List Call) (p : Ports) (h : Holds capture calls p) (port : ℕ) (below : port < 512) (item : List ℕ) (is : take_answer (after_all start calls) port ≡ Some item) where
  abbrev v : Lists
  v = after_all start calls

  given_here : map item_in (given_by v (Take port) port) ≡ item ∷ []
  given_here =
      let (k, rest, queue, same) = first_of v port item is in
      ap (λ (b : Bool). map item_in (cond b (take 1 (held v port)) [])) (eq-eqb port port refl)
      ∙ ap (λ (numbers : List ℕ). map item_in (take 1 (map (λ number. record { number = number; item = item_of v number }) numbers))) queue ∙ ap (λ (i : List ℕ). i ∷ []) (sym same)

  given_else : (other : ℕ) → (other ≡ port → ⊥) → given_by v (Take port) other ≡ []
  given_else other apart = let test : eqb port other ≡ false = ne_eqb port other (λ e. apart (sym e)) in rw test refl

  pub took : (new : Ports) (file : Vec ℕ Global) → Stands (taken v port) new.queues → new.waiting ≡ p.waiting → length new.room.items ≡ 13320
      → new.files.items ≡ set p.files.items port file → file.items ≡ file_text capture (sent_in start calls port ++ item ∷ [])
      → new.out ≡ p.out + 1 → new.queue ≡ p.queue → new.cells ≡ p.cells → Holds capture (calls ++ Take port ∷ []) new
  took new file stands waiting room files text out queue cells =
      let call = Take port in
      let same = after_one start calls call in
      let longer = length_push calls call in
      let (k, rest, first, other) = first_of v port item is in
      let one_taken : taken_by v call ≡ 1 = ap one_if first ∙ one_there k rest in
      let few_out = h.few_out in
      let few_queue = h.few_queue in
      let few_cells = h.few_cells in
      let texts : List (Vec ℕ Global) → List (List ℕ) = λ fs. map (λ (f : Vec ℕ Global). f.items) fs in
      let whole = length-map p.files.items (λ (f : Vec ℕ Global). f.items) in
      let all = h.all_files in
      let set_texts : texts new.files.items ≡ set (texts p.files.items) port file.items = ap texts files ∙ map-set (λ (f : Vec ℕ Global). f.items) p.files.items port file in
      record {
        queues = subst (λ (w : Lists). Stands w new.queues) (sym same) stands;
        many = ap (λ (w : Lists). length w.queues) same ∙ many_on v call ∙ h.many;
        all_waiting = ap (λ (w : Vec Bool Global). length w.items) waiting ∙ h.all_waiting;
        idle = λ o lt e.
            let was : queue_of v o ≡ [] = h.idle o lt (ap (λ (w : Vec Bool Global). get_or w.items o true) (sym waiting) ∙ e) in
            ap (λ (w : Lists). queue_of w o) same ∙ still_empty v port o was;
        room = room;
        all_files = ap length files ∙ length-set p.files.items port file ∙ h.all_files;
        files = λ o lt.
            ap (λ (fs : List (List ℕ)). get_or fs o []) set_texts
            ∙ ⊎_elim
            (λ (here : o ≡ port).
            ap (λ (x : ℕ). get_or (set (texts p.files.items) port file.items) x []) here ∙ get_or-set_same (texts p.files.items) port file.items [] (omega (arith, whole, all, below)) ∙ text
            ∙ ap (file_text capture) (sym (ap (sent_in start (calls ++ call ∷ [])) here ∙ sent_one start calls call port ∙ ap (λ (xs : List (List ℕ)). sent_in start calls port ++ xs) given_here)))
            (λ (apart : o ≡ port → ⊥).
            get_or-set_other (texts p.files.items) port o file.items [] apart ∙ h.files o lt
            ∙ ap (file_text capture) (sym (sent_one start calls call o ∙ ap (λ (cs : List ItemCopy). sent_in start calls o ++ map item_in cs) (given_else o apart) ∙ append-nil (sent_in start calls o))))
            (cases_eq o port);
        out = out ∙ ap (λ n. n + 1) h.out ∙ (let one = counted_one start calls call taken_by in omega (arith, one, one_taken));
        queue = queue ∙ h.queue ∙ (let one = counted_one start calls call dropped_by in omega (arith, one));
        cells = cells ∙ h.cells ∙ (let one = counted_one start calls call refused_by in omega (arith, one));
        few_out = omega (arith, longer, few_out, out);
        few_queue = omega (arith, longer, few_queue, queue);
        few_cells = omega (arith, longer, few_cells, cells);
      }

-- ---- at first

pub fresh : (capture : Capture) (new : Ports) → Stands start new.queues → new.waiting.items ≡ replicate 512 false → new.room.items ≡ replicate 13320 0
    → map (λ (f : Vec ℕ Global). f.items) new.files.items ≡ replicate 512 [] → new.out ≡ 0 → new.queue ≡ 0 → new.cells ≡ 0 → Holds capture [] new
fresh capture new stands waiting room files out queue cells =
    let none : List ℕ = [] in
    let zero_byte : ℕ = 0 in
    let empty_files = length-map new.files.items (λ (f : Vec ℕ Global). f.items) in
    let size = length-replicate 512 none in
    record {
      queues = stands;
      many = length-replicate 512 none;
      all_waiting = ap length waiting ∙ length-replicate 512 false;
      idle = λ port lt e. empty_queue 512 port;
      room = ap length room ∙ length-replicate 13320 zero_byte;
      all_files = sym empty_files ∙ ap length files ∙ size;
      files = λ port lt. ap (λ (fs : List (List ℕ)). get_or fs port []) files ∙ get_or-same 512 port none;
      out = out;
      queue = queue;
      cells = cells;
      few_out = omega (arith, out);
      few_queue = omega (arith, queue);
      few_cells = omega (arith, cells);
    }
