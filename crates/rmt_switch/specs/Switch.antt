-- What a switch makes of a capture: which copies each port sends, in order, its capture of them, and what is counted.
use Rattle.std.specs.Prelude.{ℕ, ◌+◌, ◌-◌, ◌%◌, ◌==◌, Bool, true, false, not, if◌then◌else◌, List, [], ◌∷◌, ◌++◌, length, map, count_by, Option, Some, None, option_map, unwrap_or, slice_get, slice_index_or}
use Rattle.std.specs.List.{flat_map, range_with_len}
use Rattle.rmt_bits.specs.Packet.{Packet}
use Rattle.rmt_bits.specs.declared.answer.Verdict.{Verdict}
use Rattle.rmt_bits.specs.declared.answer.Verdict.TheVariants as verdict
use Rattle.rmt_config.specs.declared.config.Config.{Config}
use Rattle.rmt_config.specs.ChipRun.{Outcome, answer_at, cycles_of, inputs_of, latency_of, outcomes_of}
use Rattle.rmt_pcap.specs.declared.capture.Capture.{Capture}
use Rattle.rmt_pcap.specs.declared.capture.Record.{Record}
use Rattle.rmt_pcap.specs.RoundTrip.{frame_of}
use Rattle.rmt_pcap.specs.Written.{written}
use Rattle.rmt_queues.specs.Lists.{Lists, empty}
use Rattle.rmt_queues.specs.Calls.{Call}
use Rattle.rmt_queues.specs.Calls.Call.{Offer}
use Rattle.rmt_switch.specs.Copies.{counted, dropped_by, refused_by, round, rounds, sent_in, taken_by}
use Rattle.rmt_switch.specs.declared.switched.PortFile.{PortFile}
use Rattle.rmt_switch.specs.declared.switched.Switched.{Switched}

-- A switch: a configuration of the chip, the groups, after how many cycles each port takes an item, and how many ports there are and how
-- many items a queue may have.
pub record Switch : Type 0 where
  pub config : Config
  pub groups : List (List ℕ)
  pub every : ℕ
  pub ports : ℕ
  pub depth : ℕ

-- ---- what enters, and what is offered

-- the frames of a capture, which all come in on port 0, one a cycle
abbrev pub packets_in : List ℕ → Capture → List Packet
packets_in file capture = map (λ (r : Record). record { port = 0; frame = frame_of file r }) capture.records

-- where what is sent to a port goes: to the ports of the line of its group, or to itself alone where no line has it
abbrev pub ports_for : List (List ℕ) → ℕ → List ℕ
ports_for groups port = if length (slice_index_or groups port []) == 0 then port ∷ [] else slice_index_or groups port []

-- the time of the frame of a number
abbrev pub time_of : Capture → ℕ → List ℕ
time_of capture number = unwrap_or (option_map (λ (r : Record). r.time) (slice_get capture.records number)) []

-- the offer of what left: of a packet that was sent its time and its bytes, and of others nothing
abbrev pub offer_of : List (List ℕ) → List ℕ → Verdict → List ℕ → List Call
offer_of groups time verdict.Short bytes = []
offer_of groups time verdict.Reject bytes = []
offer_of groups time verdict.Dropped bytes = []
offer_of groups time (verdict.Sent port) bytes = Offer (ports_for groups port) (time ++ bytes) ∷ []

abbrev pub offer_if : List (List ℕ) → List ℕ → Option Outcome → List Call
offer_if groups time None = []
offer_if groups time (Some outcome) = offer_of groups time outcome.verdict outcome.bytes

-- ---- the calls of the queues

-- the calls after a cycle: the offer of what left, and then the takes, where it is their turn
abbrev pub calls_after : Switch → List ℕ → Capture → ℕ → List Call
calls_after s file capture cycle =
    offer_if s.groups (time_of capture (cycle - latency_of s.config.stages)) (answer_at s.config (inputs_of s.config (packets_in file capture)) cycle)
    ++ (if (cycle + 1) % s.every == 0 then round s.ports else [])

-- all calls: those after each cycle, and then as many rounds as a queue may have items, which leave nothing
abbrev pub calls_of : Switch → List ℕ → Capture → List Call
calls_of s file capture = flat_map (calls_after s file capture) (range_with_len 0 (cycles_of s.config (packets_in file capture))) ++ rounds s.ports s.depth

-- ---- the captures of the ports

-- queues over 65,536 cells in which nothing stands
abbrev pub no_items : Switch → Lists
no_items s = empty 65536 s.ports s.depth

-- the capture of a port that sent these items, with the head and the byte order of the capture that was read; none where it sent nothing
abbrev pub file_if : Capture → ℕ → List (List ℕ) → List PortFile
file_if capture port [] = []
file_if capture port (item ∷ items) = record { port = port; bytes = written capture.head capture.big (item ∷ items) } ∷ []

-- by rising port
abbrev pub files_of : Switch → Capture → List Call → List PortFile
files_of s capture calls = flat_map (λ port. file_if capture port (sent_in (no_items s) calls port)) (range_with_len 0 s.ports)

-- ---- what is counted

abbrev pub is_sent : Verdict → Bool
is_sent verdict.Short = false
is_sent verdict.Reject = false
is_sent verdict.Dropped = false
is_sent (verdict.Sent port) = true

-- packets that are not sent
abbrev pub unsent : List Outcome → ℕ
unsent outcomes = count_by (λ (o : Outcome). not (is_sent o.verdict)) outcomes

-- ---- what a switch gives for the capture that a file says

abbrev pub switched_by : Switch → List ℕ → Capture → Switched
switched_by s file capture =
    let calls = calls_of s file capture in
    record {
      files = files_of s capture calls;
      counts = record {
        packets = length capture.records;
        skipped = capture.skipped;
        out = counted taken_by (no_items s) calls;
        dropped = unsent (outcomes_of s.config (packets_in file capture));
        queue = counted dropped_by (no_items s) calls;
        cells = counted refused_by (no_items s) calls;
      };
    }

-- a switch with queues of 512 ports, of 64 items each
abbrev pub switch_of : Config → List (List ℕ) → ℕ → Switch
switch_of config groups every = record { config = config; groups = groups; every = every; ports = 512; depth = 64 }

-- what it gives
abbrev pub switched : Config → List (List ℕ) → ℕ → List ℕ → Capture → Switched
switched config groups every file capture = switched_by (switch_of config groups every) file capture
