-- Programs whose answers are known.
use Rattle.std.specs.Prelude.{◌≡◌, ℕ, List, [], ◌∷◌, ◌++◌, refl}
use Rattle.rmt_bits.specs.declared.answer.Verdict.TheVariants.{Short, Reject, Dropped, Sent}
use Rattle.rmt_bits.specs.declared.answer.Answer.{Answer}
use Rattle.rmt_ast.specs.Walk.{walk, Accept}
use Rattle.rmt_ast.specs.Answers.{answers_of, counts_of}
use Rattle.rmt_ast.proofs.Programs.{packet, assignments_in_order, too_deep, operators, strict_and_weak, one_entry, prefix, prefixes, ternary, priorities, two_headers, other_headers, gate, arms, stop_and_on, two_keys, two_hits, both_keys, with_tail, tail_between, tail_stays, tail_goes}

abbrev sent : ℕ → List ℕ → List ℕ → Answer
sent port bytes hits = record { verdict = Sent port; bytes = bytes; hits = hits }

-- the second assignment reads what the first one left
pub assignments_in_order_answers : answers_of assignments_in_order ([] ∷ []) (packet 0 (1 ∷ 2 ∷ []) ∷ []) ≡ sent 0 (2 ∷ 2 ∷ []) [] ∷ []
assignments_in_order_answers = refl

pub too_deep_answers : answers_of too_deep ([] ∷ []) (packet 0 (1 ∷ 2 ∷ 3 ∷ []) ∷ []) ≡ sent 0 (3 ∷ 6 ∷ 3 ∷ []) [] ∷ []
too_deep_answers = refl

-- sums and differences wrap round at the width of the field
pub operators_answers : answers_of operators ([] ∷ []) (packet 5 (0xc5 ∷ 0xf6 ∷ 0 ∷ 0 ∷ 0 ∷ 0 ∷ 0 ∷ []) ∷ [])
    ≡ sent 0 (0xc5 ∷ 0xf6 ∷ 0xbb ∷ 0xcf ∷ 0x05 ∷ 0xf7 ∷ 0x33 ∷ []) [] ∷ []
operators_answers = refl

pub strict_and_weak_answers : answers_of strict_and_weak one_entry (packet 0 (7 ∷ []) ∷ packet 0 (8 ∷ []) ∷ []) ≡ sent 5 (7 ∷ []) (0 ∷ []) ∷ sent 0 (8 ∷ []) [] ∷ []
strict_and_weak_answers = refl

-- the longest prefix is hit, and each entry counts one packet of 4 bytes
pub prefix_answers : answers_of prefix prefixes (packet 0 (10 ∷ 0 ∷ 1 ∷ 5 ∷ []) ∷ packet 0 (10 ∷ 0 ∷ 1 ∷ 6 ∷ []) ∷ packet 0 (10 ∷ 1 ∷ 0 ∷ 0 ∷ []) ∷ packet 0 (11 ∷ 0 ∷ 0 ∷ 0 ∷ []) ∷ [])
    ≡ sent 4 (10 ∷ 0 ∷ 1 ∷ 5 ∷ []) (3 ∷ []) ∷ sent 3 (10 ∷ 0 ∷ 1 ∷ 6 ∷ []) (2 ∷ []) ∷ sent 2 (10 ∷ 1 ∷ 0 ∷ 0 ∷ []) (1 ∷ []) ∷ sent 1 (11 ∷ 0 ∷ 0 ∷ 0 ∷ []) (0 ∷ []) ∷ []
prefix_answers = refl

pub prefix_counts : counts_of prefix prefixes (packet 0 (10 ∷ 0 ∷ 1 ∷ 5 ∷ []) ∷ packet 0 (10 ∷ 0 ∷ 1 ∷ 6 ∷ []) ∷ packet 0 (10 ∷ 1 ∷ 0 ∷ 0 ∷ []) ∷ packet 0 (11 ∷ 0 ∷ 0 ∷ 0 ∷ []) ∷ [])
    ≡ record { entry = 0; packets = 1; bytes = 4 } ∷ record { entry = 1; packets = 1; bytes = 4 } ∷ record { entry = 2; packets = 1; bytes = 4 } ∷ record { entry = 3; packets = 1; bytes = 4 } ∷ []
prefix_counts = refl

-- the least priority is hit, then the earlier entry; what no entry matches takes the default
pub ternary_answers : answers_of ternary priorities (packet 9 (0x15 ∷ []) ∷ packet 9 (0x12 ∷ []) ∷ packet 9 (0x32 ∷ []) ∷ packet 9 (0x33 ∷ []) ∷ [])
    ≡ sent 1 (0x15 ∷ []) (0 ∷ []) ∷ sent 2 (0x12 ∷ []) (1 ∷ []) ∷ sent 2 (0x32 ∷ []) (1 ∷ []) ∷ sent 0 (0x33 ∷ []) [] ∷ []
ternary_answers = refl

-- a whole header g and a byte of payload; a cut g; a case with a mask, where all behind h is payload; a reject; an else; no byte for h
pub two_headers_answers : answers_of two_headers [] (packet 0 (1 ∷ 2 ∷ 3 ∷ 4 ∷ []) ∷ packet 0 (1 ∷ 2 ∷ []) ∷ packet 0 (6 ∷ 2 ∷ []) ∷ packet 0 (255 ∷ 2 ∷ []) ∷ packet 0 (0 ∷ []) ∷ packet 0 [] ∷ [])
    ≡ sent 0 (1 ∷ 2 ∷ 3 ∷ 4 ∷ []) [] ∷ record { verdict = Short; bytes = []; hits = [] } ∷ sent 0 (6 ∷ 2 ∷ []) []
    ∷ record { verdict = Reject; bytes = []; hits = [] } ∷ sent 0 (0 ∷ []) [] ∷ record { verdict = Short; bytes = []; hits = [] } ∷ []
two_headers_answers = refl

-- a header that an action makes valid is sent, and one that it makes invalid is not
pub other_headers_answers : answers_of other_headers ([] ∷ []) (packet 0 (1 ∷ 2 ∷ 3 ∷ 4 ∷ []) ∷ packet 0 (6 ∷ 2 ∷ []) ∷ [])
    ≡ sent 0 (2 ∷ 3 ∷ 4 ∷ []) [] ∷ sent 0 (0 ∷ 0 ∷ 2 ∷ []) [] ∷ []
other_headers_answers = refl

pub gate_answers : answers_of gate ([] ∷ [] ∷ [] ∷ []) (packet 0 (0x17 ∷ []) ∷ packet 0 (0x27 ∷ []) ∷ []) ≡ sent 1 (0x17 ∷ []) [] ∷ sent 2 (0x27 ∷ []) [] ∷ []
gate_answers = refl

-- a hit with the action that has an arm of its own, a hit with another one, and a miss
pub arms_answers : answers_of arms stop_and_on (packet 0 (7 ∷ 1 ∷ []) ∷ packet 0 (8 ∷ []) ∷ packet 0 (9 ∷ []) ∷ [])
    ≡ record { verdict = Dropped; bytes = []; hits = 0 ∷ [] } ∷ sent 2 (8 ∷ []) (1 ∷ []) ∷ sent 3 (9 ∷ []) [] ∷ []
arms_answers = refl

-- dropped packets that hit count too, and an entry that no packet hit counts 0
pub arms_counts : counts_of arms stop_and_on (packet 0 (7 ∷ 1 ∷ []) ∷ packet 0 (9 ∷ []) ∷ packet 0 (7 ∷ []) ∷ [])
    ≡ record { entry = 0; packets = 2; bytes = 3 } ∷ record { entry = 1; packets = 0; bytes = 0 } ∷ []
arms_counts = refl

-- every field of the key must match; in_port is the port that the packet came in on
pub two_keys_answers : answers_of two_keys both_keys (packet 300 (1 ∷ 2 ∷ []) ∷ packet 300 (1 ∷ 3 ∷ []) ∷ []) ≡ sent 300 (1 ∷ 2 ∷ []) (0 ∷ []) ∷ sent 0 (1 ∷ 3 ∷ []) [] ∷ []
two_keys_answers = refl

-- the entries that a packet hits stand in the order of the nodes
pub two_hits_answers : answers_of two_hits (both_keys ++ (record { table = 1; number = 4; tests = record { value = 1; mask = 255 } ∷ []; rank = 0; action = 0; args = [] } ∷ []) ∷ []) (packet 300 (1 ∷ 2 ∷ []) ∷ [])
    ≡ sent 300 (1 ∷ 2 ∷ []) (0 ∷ 4 ∷ []) ∷ []
two_hits_answers = refl

-- a tail of 4 bytes, one that is cut, one of fewer than 0 bytes, and an empty one
pub with_tail_answers : answers_of with_tail ([] ∷ []) (packet 0 (0x2f ∷ 0xaa ∷ 0xbb ∷ 0xcc ∷ 0xdd ∷ 0xee ∷ []) ∷ packet 0 (0x2f ∷ 0xaa ∷ 0xbb ∷ []) ∷ packet 0 (0x0f ∷ []) ∷ packet 0 (0x1f ∷ []) ∷ [])
    ≡ sent 1 (0x2f ∷ 0xaa ∷ 0xbb ∷ 0xcc ∷ 0xdd ∷ 0xee ∷ []) [] ∷ record { verdict = Short; bytes = []; hits = [] }
    ∷ record { verdict = Reject; bytes = []; hits = [] } ∷ sent 1 (0x1f ∷ []) [] ∷ []
with_tail_answers = refl

-- the tail stands beside the state, and the payload begins behind it
pub with_tail_reaches : walk with_tail 7 (0x2f ∷ 1 ∷ 2 ∷ 3 ∷ 4 ∷ 5 ∷ []) ≡ Accept (record { state = 7 ∷ 0 ∷ 0 ∷ 1 ∷ 2 ∷ 15 ∷ []; tails = (1 ∷ 2 ∷ 3 ∷ 4 ∷ []) ∷ []; at = 5 })
with_tail_reaches = refl

-- the bytes 7, 8 are the tail of h, then come g and the payload; a tail is sent behind its own header
pub tail_between_reaches : walk tail_between 0 (2 ∷ 7 ∷ 8 ∷ 5 ∷ 6 ∷ [])
    ≡ Accept (record { state = 0 ∷ 0 ∷ 0 ∷ 1 ∷ 2 ∷ 1 ∷ 5 ∷ []; tails = (7 ∷ 8 ∷ []) ∷ [] ∷ []; at = 4 })
tail_between_reaches = refl

pub tail_between_answers : answers_of tail_between [] (packet 0 (2 ∷ 7 ∷ 8 ∷ 5 ∷ 6 ∷ []) ∷ packet 0 (2 ∷ 7 ∷ 8 ∷ []) ∷ [])
    ≡ sent 0 (2 ∷ 7 ∷ 8 ∷ 5 ∷ 6 ∷ []) [] ∷ record { verdict = Short; bytes = []; hits = [] } ∷ []
tail_between_answers = refl

-- another number in the field leaves the tail as it was read
pub tail_stays_answers : answers_of tail_stays ([] ∷ []) (packet 0 (2 ∷ 7 ∷ 8 ∷ 5 ∷ 6 ∷ []) ∷ []) ≡ sent 0 (9 ∷ 7 ∷ 8 ∷ 5 ∷ 6 ∷ []) [] ∷ []
tail_stays_answers = refl

-- a header that is no longer valid takes its tail with it
pub tail_goes_answers : answers_of tail_goes ([] ∷ []) (packet 0 (2 ∷ 7 ∷ 8 ∷ 5 ∷ 6 ∷ []) ∷ []) ≡ sent 0 (5 ∷ 6 ∷ []) [] ∷ []
tail_goes_answers = refl
