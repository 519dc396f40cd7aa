-- A run, one cycle later.
use Rattle.std.proofs.Common.{◌≡◌, ℕ, zero, suc, ◌+◌, ◌*◌, ◌-◌, ◌<◌, ◌≤◌, ◌%◌, List, [], ◌∷◌, ◌++◌, Bool, cond, true, false, not, eqb, length, drop, Option, Some, None, Vec, Global, refl, sym, ap, subst, ◌∙◌, append_assoc, inl, inr, ◌⊎◌, arith}
use Rattle.std.specs.Prelude.{All, slice_get, option_map, unwrap_or, filter_map, slice_range}
use Rattle.std.specs.List.{flat_map, range_with_len, cons_option}
use Rattle.std.proofs.lemmas.Grind.{flat_map-append}
use Rattle.std.proofs.lemmas.List.{append-nil, length-append, length-map}
use Rattle.std.proofs.lemmas.List.Elements.{filter_map-append}
use Rattle.std.proofs.lemmas.List.FromFn.{length-map-range_with_len}
use Rattle.std.proofs.lemmas.List.Sums.{sum_by-append}
use Rattle.std.proofs.lemmas.Option.{slice_get-map}
use Rattle.rmt_bits.specs.Packet.{Packet}
use Rattle.rmt_bits.specs.declared.answer.Verdict.{Verdict}
use Rattle.rmt_bits.specs.declared.answer.Verdict.TheVariants as verdict
use Rattle.rmt_bits.proofs.AllLaws.{All-slice_get}
use Rattle.rmt_config.specs.declared.config.Config.{Config}
use Rattle.rmt_config.specs.ChipRun.{Outcome, answer_at, cycles_of, inputs_of, latency_of, outcome_of, outcomes_of, own_look}
use Rattle.rmt_chip.specs.Leaving.{AnswersIf}
use Rattle.rmt_chip.proofs.EmitLaws.{length-taken}
use Rattle.rmt_chip.proofs.FormedRuns.{runnable}
use Rattle.rmt_pcap.specs.declared.capture.Capture.{Capture}
use Rattle.rmt_pcap.specs.declared.capture.Record.{Record}
use Rattle.rmt_pcap.specs.Captures.{IsOfFile}
use Rattle.rmt_pcap.specs.RoundTrip.{frame_of}
use Rattle.rmt_queues.specs.Calls.{Call}
use Rattle.rmt_queues.specs.Calls.Call.{Take}
use Rattle.rmt_switch.specs.Clocked.{Fits, IsClocked, Left, Runs}
use Rattle.rmt_switch.specs.declared.running.Running.{Running}
use Rattle.rmt_switch.specs.declared.ports.Ports.{Ports}
use Rattle.rmt_switch.specs.declared.switched.PortFile.{PortFile}
use Rattle.rmt_switch.specs.declared.switched.Switched.{Switched}
use Rattle.rmt_pcap.specs.Written.{record_text, written}
use Rattle.rmt_switch.specs.Ports.{Holds, file_at, file_text, files_from, named, start}
use Rattle.rmt_switch.specs.Copies.{counted, dropped_by, round, sent_in, taken_by}
use Rattle.rmt_switch.specs.Running.{CanBeOffered, Ends, Goes, first_calls, first_outcomes, offer_left, unsent_left}
use Rattle.rmt_switch.specs.Switch.{Switch, calls_after, calls_of, file_if, files_of, is_sent, offer_if, offer_of, packets_in, switch_of, switched, time_of, unsent}
use Rattle.rmt_switch.proofs.ChipClocked.{left}
use Rattle.rmt_switch.proofs.ChipFits.{outcome_fits}
use Rattle.rmt_switch.proofs.RoundLaws.{one_more}

-- ---- lists by cycle

module _ (s : Switch) (file : List ℕ) (capture : Capture) (cycle : ℕ) where
  abbrev here : Option Outcome
  here = answer_at s.config (inputs_of s.config (packets_in file capture)) cycle

  pub calls_more : first_calls s file capture (cycle + 1) ≡ first_calls s file capture cycle ++ calls_after s file capture cycle
  calls_more =
      ap (flat_map (calls_after s file capture)) (one_more cycle) ∙ flat_map-append (calls_after s file capture) (range_with_len 0 cycle) (cycle ∷ [])
      ∙ ap (λ (cs : List Call). first_calls s file capture cycle ++ cs) (append-nil (calls_after s file capture cycle))

  -- what a cycle counts
  unsent_one : (o : Option Outcome) → unsent (cons_option o []) ≡ unsent_left (option_map (λ (x : Outcome). x.verdict) o)
  unsent_one None = refl
  unsent_one (Some o) = of_verdict (is_sent o.verdict)
    where
      of_verdict : (b : Bool) → 0 + cond (not b) 1 0 ≡ cond b 0 1
      of_verdict true = refl
      of_verdict false = refl

  pub unsent_more : unsent (first_outcomes s file capture (cycle + 1)) ≡ unsent (first_outcomes s file capture cycle) + unsent_left (option_map (λ (x : Outcome). x.verdict) here)
  unsent_more =
      let answer = answer_at s.config (inputs_of s.config (packets_in file capture)) in
      let both = filter_map-append answer (range_with_len 0 cycle) (cycle ∷ []) in
      ap (λ (ns : List ℕ). unsent (filter_map answer ns)) (one_more cycle) ∙ ap unsent both
      ∙ sum_by-append (λ (o : Outcome). cond (not (is_sent o.verdict)) 1 0) (first_outcomes s file capture cycle) (cons_option here [])
      ∙ ap (λ n. unsent (first_outcomes s file capture cycle) + n) (unsent_one here)

-- ---- what leaves, as the chip's call tells it

pub left_offer : (groups : List (List ℕ)) (time : List ℕ) (answer : Option Outcome) (v : Option Verdict) (bytes : List ℕ) → AnswersIf answer v bytes → offer_left groups time v bytes ≡ offer_if groups time answer
left_offer groups time None None bytes is = refl
left_offer groups time None (Some v) bytes is = absurd is
left_offer groups time (Some o) None bytes is = absurd is
left_offer groups time (Some o) (Some v) bytes is = ap (λ (w : Verdict). offer_of groups time w bytes) is.verdict_is ∙ ap (offer_of groups time o.verdict) is.bytes_are

pub left_unsent : (answer : Option Outcome) (v : Option Verdict) (bytes : List ℕ) → AnswersIf answer v bytes → unsent_left v ≡ unsent_left (option_map (λ (x : Outcome). x.verdict) answer)
left_unsent None None bytes is = refl
left_unsent None (Some v) bytes is = absurd is
left_unsent (Some o) None bytes is = absurd is
left_unsent (Some o) (Some v) bytes is = ap (λ (w : Verdict). unsent_left (Some w)) is.verdict_is

pub unsent_few : (v : Option Verdict) → unsent_left v ≤ 1
unsent_few None = omega arith
unsent_few (Some v) = of_test (is_sent v)
  where
    of_test : (b : Bool) → cond b 0 1 ≤ 1
    of_test true = omega arith
    of_test false = omega arith

-- ---- how many calls there are

offer_few : (groups : List (List ℕ)) (time : List ℕ) (v : Verdict) (bytes : List ℕ) → length (offer_of groups time v bytes) ≤ 1
offer_few groups time verdict.Short bytes = omega arith
offer_few groups time verdict.Reject bytes = omega arith
offer_few groups time verdict.Dropped bytes = omega arith
offer_few groups time (verdict.Sent port) bytes = omega arith

offers_few : (groups : List (List ℕ)) (time : List ℕ) (o : Option Outcome) → length (offer_if groups time o) ≤ 1
offers_few groups time None = omega arith
offers_few groups time (Some o) = offer_few groups time o.verdict o.bytes

pub round_size : (ports : ℕ) → length (round ports) ≡ ports
round_size ports = length-map-range_with_len Take 0 ports

takes_few : (b : Bool) (ports : ℕ) → length (cond b (round ports) []) ≤ ports
takes_few true ports = let size = round_size ports in omega (arith, size)
takes_few false ports = omega arith

module _ (s : Switch) (file : List ℕ) (capture : Capture) where
  pub calls_few : (cycles : ℕ) → length (first_calls s file capture cycles) ≤ (s.ports + 1) * cycles
  calls_few zero = omega arith
  calls_few (suc n) =
      let next : suc n ≡ n + 1 = omega arith in
      let before = calls_few n in
      let time = time_of capture (n - latency_of s.config.stages) in
      let o = answer_at s.config (inputs_of s.config (packets_in file capture)) n in
      let test = eqb ((n + 1) % s.every) 0 in
      let offers = offers_few s.groups time o in
      let takes = takes_few test s.ports in
      let both = length-append (offer_if s.groups time o) (cond test (round s.ports) []) in
      let whole = length-append (first_calls s file capture n) (calls_after s file capture n) in
      let more = ap (λ (cs : List Call). length cs) (ap (first_calls s file capture) next ∙ calls_more s file capture n) in
      let product : (s.ports + 1) * suc n ≡ (s.ports + 1) * n + (s.ports + 1) = omega arith in
      omega (arith, before, offers, takes, both, whole, more, product)

-- ---- what is sent can be offered

packet_short : (file : List ℕ) (capture : Capture) → All (IsOfFile file) capture.records → (k : ℕ) (packet : Packet) → slice_get (packets_in file capture) k ≡ Some packet
    → (length (time_of capture k) ≡ 8) × (length packet.frame ≤ 9216)
packet_short file capture records k packet e = of_record (slice_get capture.records k) refl (sym (slice_get-map (λ (r : Record). record { port = 0; frame = frame_of file r }) capture.records k) ∙ e)
  where
    of_record : (o : Option Record) → slice_get capture.records k ≡ o → option_map (λ (r : Record). record { port = 0; frame = frame_of file r }) o ≡ Some packet
        → (length (time_of capture k) ≡ 8) × (length packet.frame ≤ 9216)
    of_record None is h = absurd (cc)
    of_record (Some r) is h =
        let fits = All-slice_get (IsOfFile file) capture.records k r records is in
        let same : frame_of file r ≡ packet.frame = ap (λ (o : Option Packet). (unwrap_or o packet).frame) h in
        let few = fits.few in
        let size = frame_size file r.from r.len in (
          ap (λ (o : Option Record). length (unwrap_or (option_map (λ (x : Record). x.time) o) [])) is ∙ fits.time,
          subst (λ (frame : List ℕ). length frame ≤ 9216) same (omega (arith, few, size)),
        )
      where
        frame_size : (bytes : List ℕ) (from len : ℕ) → length (slice_range bytes from (from + len)) ≤ len
        frame_size bytes from len = let taken = length-taken (from + len - from) (drop from bytes) in omega (arith, taken)

pub can_be_offered : (c : Config) → Runs c → (file : List ℕ) (capture : Capture) → All (IsOfFile file) capture.records → (cycle : ℕ) → cycle < cycles_of c (packets_in file capture)
    → (v : Option Verdict) (bytes : List ℕ) → AnswersIf (answer_at c (inputs_of c (packets_in file capture)) cycle) v bytes → CanBeOffered (time_of capture (cycle - latency_of c.stages)) v bytes
can_be_offered c runs file capture records cycle lt v bytes is port sent = of_answer (answer_at c (inputs_of c (packets_in file capture)) cycle) refl v is sent
  where
    of_answer : (o : Option Outcome) → answer_at c (inputs_of c (packets_in file capture)) cycle ≡ o → (v : Option Verdict) → AnswersIf o v bytes → v ≡ Some (verdict.Sent port)
        → (length (time_of capture (cycle - latency_of c.stages)) ≡ 8) × Fits port bytes
    of_answer None at None h e = absurd (cc)
    of_answer None at (Some w) h e = absurd h
    of_answer (Some o) at None h e = absurd h
    of_answer (Some o) at (Some w) h e =
        let became : Left c (packets_in file capture) cycle o = left c (packets_in file capture) cycle lt o at in
        let (time, short) = packet_short file capture records (cycle - latency_of c.stages) became.packet became.entered in
        let is_sent : (outcome_of (own_look c) c became.packet).verdict ≡ verdict.Sent port =
        ap (λ (x : Outcome). x.verdict) became.is ∙ sym h.verdict_is ∙ ap (λ (x : Option Verdict). unwrap_or x w) e in
        let fits = outcome_fits (own_look c) c (runnable c runs.form.items runs.limits) became.packet short port is_sent in
        (time, subst (λ (bs : List ℕ). Fits port bs) (ap (λ (x : Outcome). x.bytes) became.is ∙ sym h.bytes_are) fits)

pub left_few : (groups : List (List ℕ)) (time : List ℕ) (v : Option Verdict) (bytes : List ℕ) → length (offer_left groups time v bytes) ≤ 1
left_few groups time None bytes = omega arith
left_few groups time (Some v) bytes = offer_few groups time v bytes

-- ---- a cycle more, and the end

pub goes_on : (s : Switch) (file : List ℕ) (capture : Capture) (cycle : ℕ) (run new : Running) (v : Option Verdict) (bytes time : List ℕ) → Goes s file capture cycle run
    → AnswersIf (answer_at s.config (inputs_of s.config (packets_in file capture)) cycle) v bytes → time ≡ time_of capture (cycle - latency_of s.config.stages)
    → IsClocked s.config (packets_in file capture) (cycle + 1) new.chip → new.dropped ≡ run.dropped + unsent_left v
    → Holds capture ((first_calls s file capture cycle ++ offer_left s.groups time v bytes) ++ cond (eqb ((cycle + 1) % s.every) 0) (round s.ports) []) new.ports
    → Goes s file capture (cycle + 1) new
goes_on s file capture cycle run new v bytes time g answers time_is clocked dropped holds =
    let answer = answer_at s.config (inputs_of s.config (packets_in file capture)) cycle in
    let takes = cond (eqb ((cycle + 1) % s.every) 0) (round s.ports) [] in
    let offers = ap (λ (t : List ℕ). offer_left s.groups t v bytes) time_is ∙ left_offer s.groups (time_of capture (cycle - latency_of s.config.stages)) answer v bytes answers in
    let same = ap (λ (cs : List Call). (first_calls s file capture cycle ++ cs) ++ takes) offers
    ∙ append_assoc (first_calls s file capture cycle) (offer_if s.groups (time_of capture (cycle - latency_of s.config.stages)) answer) takes ∙ sym (calls_more s file capture cycle) in
    let one = unsent_few v in
    let few = g.few in
    record {
      clocked = clocked;
      holds = subst (λ (cs : List Call). Holds capture cs new.ports) same holds;
      dropped = dropped ∙ ap (λ n. n + unsent_left v) g.dropped ∙ ap (λ n. unsent (first_outcomes s file capture cycle) + n) (left_unsent answer v bytes answers) ∙ sym (unsent_more s file capture cycle);
      few = omega (arith, one, few, dropped);
    }

-- a file that has bytes
named_some : (port : ℕ) (bytes : List ℕ) → 0 < length bytes → named port bytes ≡ record { port = port; bytes = bytes } ∷ []
named_some port [] some = absurd (omega (arith, some))
named_some port (b ∷ bytes) some = refl

module _ (capture : Capture) (head : length capture.head ≡ 24) (calls : List Call) where
  named_is : (port : ℕ) (items : List (List ℕ)) → named port (file_text capture items) ≡ file_if capture port items
  named_is port [] = refl
  named_is port (item ∷ items) =
      named_some port (written capture.head capture.big (item ∷ items))
      (let both = length-append capture.head (flat_map (record_text capture.big) (item ∷ items)) in omega (arith, both, head))

  -- the files of the ports from one on
  files_from_are : (fs : List (Vec ℕ Global)) (from : ℕ) → ((k : ℕ) → k < length fs → file_at fs k ≡ file_text capture (sent_in start calls (from + k)))
      → files_from from fs ≡ flat_map (λ port. file_if capture port (sent_in start calls port)) (range_with_len from (length fs))
  files_from_are [] from same = refl
  files_from_are (f ∷ fs) from same =
      let first : from + 0 ≡ from = omega arith in
      let here : f.items ≡ file_text capture (sent_in start calls from) = same 0 (omega arith) ∙ ap (λ n. file_text capture (sent_in start calls n)) first in
      let rest = files_from_are fs (from + 1)
      (λ k lt.
      let next : from + suc k ≡ from + 1 + k = omega arith in
      same (suc k) (omega (arith, lt)) ∙ ap (λ n. file_text capture (sent_in start calls n)) next) in
      ap (λ (bytes : List ℕ). named from bytes ++ files_from (from + 1) fs) here
      ∙ ap (λ (x : List PortFile). x ++ files_from (from + 1) fs) (named_is from (sent_in start calls from))
      ∙ ap (λ (x : List PortFile). file_if capture from (sent_in start calls from) ++ x) rest

  pub files_are : (p : Ports) → Holds capture calls p → files_from 0 p.files.items ≡ flat_map (λ port. file_if capture port (sent_in start calls port)) (range_with_len 0 512)
  files_are p h =
      let all = h.all_files in
      files_from_are p.files.items 0
      (λ k lt.
      let same : k ≡ 0 + k = omega arith in
      h.files k (omega (arith, all, lt)) ∙ ap (λ n. file_text capture (sent_in start calls n)) same)
      ∙ ap (λ n. flat_map (λ port. file_if capture port (sent_in start calls port)) (range_with_len 0 n)) h.all_files

-- what is given at the end
pub given_at_end : (c : Config) (groups : List (List ℕ)) (every : ℕ) (file : List ℕ) (capture : Capture) → length capture.head ≡ 24 → (run : Running) → Ends (switch_of c groups every) file capture run
    → (files : List PortFile) (packets skipped : ℕ) → files ≡ files_from 0 run.ports.files.items → packets ≡ length capture.records → skipped ≡ capture.skipped
    → ◌≡◌ {A = Switched} (record { files = files; counts = record { packets = packets; skipped = skipped; out = run.ports.out; dropped = run.dropped; queue = run.ports.queue; cells = run.ports.cells } })
    (switched c groups every file capture)
given_at_end c groups every file capture head run e files packets skipped is many passed =
    let s = switch_of c groups every in
    let calls = calls_of s file capture in
    let make : List PortFile → ℕ → ℕ → ℕ → ℕ → ℕ → ℕ → Switched =
    λ fs p k o d q x. record { files = fs; counts = record { packets = p; skipped = k; out = o; dropped = d; queue = q; cells = x } } in
    ap (λ fs. make fs packets skipped run.ports.out run.dropped run.ports.queue run.ports.cells) (is ∙ files_are capture head calls run.ports e.holds)
    ∙ ap (λ n. make (files_of s capture calls) n skipped run.ports.out run.dropped run.ports.queue run.ports.cells) many
    ∙ ap (λ n. make (files_of s capture calls) (length capture.records) n run.ports.out run.dropped run.ports.queue run.ports.cells) passed
    ∙ ap (λ n. make (files_of s capture calls) (length capture.records) capture.skipped n run.dropped run.ports.queue run.ports.cells) e.holds.out
    ∙ ap (λ n. make (files_of s capture calls) (length capture.records) capture.skipped (counted taken_by start calls) n run.ports.queue run.ports.cells) e.dropped
    ∙ ap (λ n. make (files_of s capture calls) (length capture.records) capture.skipped (counted taken_by start calls) (unsent (outcomes_of c (packets_in file capture))) n run.ports.cells) e.holds.queue
    ∙ ap (λ n. make (files_of s capture calls) (length capture.records) capture.skipped (counted taken_by start calls) (unsent (outcomes_of c (packets_in file capture))) (counted dropped_by start calls) n) e.holds.cells

-- ---- a packet that is not sent

pub record Unsent (v : Verdict) : Type 0 where
  pub counts : unsent_left (Some v) ≡ 1
  pub offers : (groups : List (List ℕ)) (time bytes : List ℕ) → offer_of groups time v bytes ≡ []

pub is_unsent : (v : Verdict) → (v ≡ verdict.Short) ⊎ ((v ≡ verdict.Reject) ⊎ (v ≡ verdict.Dropped)) → Unsent v
is_unsent v (inl e) = subst Unsent (sym e) (record { counts = refl; offers = λ groups time bytes. refl })
is_unsent v (inr (inl e)) = subst Unsent (sym e) (record { counts = refl; offers = λ groups time bytes. refl })
is_unsent v (inr (inr e)) = subst Unsent (sym e) (record { counts = refl; offers = λ groups time bytes. refl })

pub packets_many : (file : List ℕ) (capture : Capture) → length (packets_in file capture) ≡ length capture.records
packets_many file capture = length-map capture.records (λ (r : Record). record { port = 0; frame = frame_of file r })
