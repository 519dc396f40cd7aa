-- Packet texts and answer lines written out.
use Rattle.std.specs.Prelude.{◌≡◌, [], ◌∷◌, map, Some, None, Ok, Err, codes, refl}
use Rattle.std.specs.Fmt.{digits}
use Rattle.hex.specs.Hex.{decode_pairs, encode_with}
use Rattle.rmt_bits.specs.declared.answer.Verdict.TheVariants.{Sent, Short}
use Rattle.rmt_packets.specs.declared.line_kind.LineKind.TheVariants.{Addition, Removal, Commit, Packet}
use Rattle.rmt_packets.specs.AnswerLine.{answer_line}
use Rattle.rmt_packets.specs.LineKinds.{kind_of}
use Rattle.rmt_packets.specs.PacketText.{packet_of, packets_of}
use Rattle.rmt_packets.specs.Pieces.{ended_lines, open_line}

-- digits of either case
packet : packet_of (codes "511 fFa0") ≡ Ok (record { port = 511; frame = 255 ∷ 160 ∷ [] })
unfolding decode_pairs
packet = refl

leading_zeros : packet_of (codes "0000000007 00") ≡ Ok (record { port = 7; frame = 0 ∷ [] })
unfolding decode_pairs
leading_zeros = refl

-- texts that are no packet: eleven digits, a space in front, no space, a port above 511, which is looked at before the frame, no digit, an
-- odd number of them, and one that is none
refused : map packet_of (codes "00000000007 00" ∷ codes " 7 00" ∷ codes "7" ∷ codes "512 " ∷ codes "0 " ∷ codes "2 abc" ∷ codes "2 0g" ∷ [])
    ≡ Err 1 ∷ Err 1 ∷ Err 1 ∷ Err 2 ∷ Err 3 ∷ Err 1 ∷ Err 1 ∷ []
unfolding decode_pairs
refused = refl

-- blank lines and comments are counted and passed over
bad_packets : packets_of (codes "# none\n0 ff\n  \n1 00\n\n2 abc\n3 00") ≡ record {
  packets = record { port = 0; frame = 255 ∷ [] } ∷ record { port = 1; frame = 0 ∷ [] } ∷ [];
  bad = Some (record { code = 1; line = 6 });
}
unfolding decode_pairs
bad_packets = refl

no_packets : packets_of (codes "# none") ≡ record { packets = []; bad = None }
no_packets = refl

-- what is ended in a text that may go on
ended : ended_lines (codes "# none\n0 ff\n\n1 0") ≡ (2, codes "0 ff") ∷ []
ended = refl

none_ended : ended_lines (codes "0 ff") ≡ []
none_ended = refl

not_ended : open_line (codes "0 ff\n1 0") ≡ codes "1 0"
not_ended = refl

all_ended : open_line (codes "0 ff\n") ≡ []
all_ended = refl

sent : answer_line 0 (record { verdict = Sent 1; bytes = 255 ∷ 10 ∷ []; hits = [] }) ≡ codes "0 1 ff0a\n"
unfolding digits encode_with
sent = refl

nothing_sent : answer_line 12 (record { verdict = Sent 3; bytes = []; hits = [] }) ≡ codes "12 3 -\n"
unfolding digits encode_with
nothing_sent = refl

dropped : answer_line 2 (record { verdict = Short; bytes = []; hits = [] }) ≡ codes "2 drop short\n"
unfolding digits encode_with
dropped = refl

-- changes and a commit
changes : map kind_of (codes "+ b 7 go 6" ∷ codes "- b 7" ∷ codes "commit" ∷ codes "+ " ∷ codes "- " ∷ []) ≡ Addition ∷ Removal ∷ Commit ∷ Addition ∷ Removal ∷ []
changes = refl

-- lines on which a packet is to stand: a sign alone, one without a space behind it, one behind a space, and a commit with more
no_changes : map kind_of (codes "0 07" ∷ codes "+" ∷ codes "-" ∷ codes "+b 7 go 6" ∷ codes " - b 7" ∷ codes "commit " ∷ codes "commi" ∷ []) ≡ Packet ∷ Packet ∷ Packet ∷ Packet ∷ Packet ∷ Packet ∷ Packet ∷ []
no_changes = refl
