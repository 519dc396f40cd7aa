use Rattle.std.proofs.Common.{◌≡◌, ℕ, ◌+◌, List, length, drop, sym, subst, arith}
use Rattle.std.specs.Prelude.{All}
use Rattle.std.proofs.lemmas.List.{length-drop}
use Rattle.rmt_pcap.specs.Captures.{IsHead, IsOfFile, Said, said_from}
use Rattle.rmt_pcap.proofs.HeadLaws.{head_of_file}
use Rattle.rmt_pcap.proofs.RecordLaws.{all_of_file}
use Rattle.rmt_pcap.proofs.reading.read_capture.Goals as goal

pub returns-clause-head : goal.returns-clause-head
returns-clause-head c =
    let file = c.args.bytes.now in
    subst (λ (head : List ℕ). IsHead c.in-Some.big head) (sym c.in_ok-head.ensures)
    (head_of_file c.in-Some.big file c.if-bytes-lt-HEAD.false (sym c.in-Some.ensures) (sym c.if-not-has_version.ensures))

pub returns-clause-records : goal.returns-clause-records
returns-clause-records c =
    let file = c.args.bytes.now in
    let size : 24 + length (drop 24 file) ≡ length file = omega (arith, length-drop 24 file, c.if-bytes-lt-HEAD.false) in
    let said : record { records = c.in_ok-records.records; skipped = c.in_ok-records.skipped } ≡ said_from c.in-Some.big 24 0 (drop 24 file) = c.in_ok-records.ensures in
    subst (λ (s : Said). All (IsOfFile file) s.records) (sym said) (all_of_file c.in-Some.big file 24 0 (drop 24 file) size)
