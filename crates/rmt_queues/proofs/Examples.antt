-- Offers and takes that are worked by hand.
use Rattle.std.proofs.Common.{◌≡◌, ℕ, ◌*◌, ◌≤◌, ◌<◌, List, [], ◌∷◌, Some, None, length, replicate, refl, lit≤, lit<}
use Rattle.rmt_cells.specs.Pieces.{cells_for}
use Rattle.rmt_queues.specs.declared.queues.Offered.TheVariants.{CellsFull, Queued}
use Rattle.rmt_queues.specs.Calls.{Call, after_all, given, held, queued}
use Rattle.rmt_queues.specs.Calls.Call.{Offer, Take}
use Rattle.rmt_queues.specs.Lists.{Lists, empty, free_cells, offer_answer, queue_of, take_answer}

-- an item of one byte
abbrev small : List ℕ
small = 7 ∷ []

-- an item of 65 bytes, which takes two cells
abbrev large : List ℕ
large = replicate 65 9

-- ---- one port full: of 100 items 64 stand in its queue, and the others are dropped

abbrev hundred : Lists
hundred = after_all (empty 65536 2 64) (replicate 100 (Offer (1 ∷ []) small))

one_port_full : length (queue_of hundred 1) ≡ 64
one_port_full = refl

other_port_empty : queue_of hundred 0 ≡ []
other_port_empty = refl

one_more : offer_answer hundred (1 ∷ []) small ≡ Queued 0 1
one_more = refl

sixty_four_cells : free_cells hundred ≡ 65472
sixty_four_cells = refl

-- ---- two copies of one item: its cells are given back with the second

abbrev pair : List Call
pair = Offer (0 ∷ 1 ∷ []) large ∷ []

two_copies : offer_answer (empty 65536 2 64) (0 ∷ 1 ∷ []) large ≡ Queued 2 0
two_copies = refl

stored_once : free_cells (after_all (empty 65536 2 64) pair) ≡ 65534
stored_once = refl

first_copy : take_answer (after_all (empty 65536 2 64) pair) 1 ≡ Some large
first_copy = refl

still_stored : free_cells (after_all (empty 65536 2 64) (Offer (0 ∷ 1 ∷ []) large ∷ Take 1 ∷ [])) ≡ 65534
still_stored = refl

nothing_more : take_answer (after_all (empty 65536 2 64) (Offer (0 ∷ 1 ∷ []) large ∷ Take 1 ∷ [])) 1 ≡ None
nothing_more = refl

second_copy : take_answer (after_all (empty 65536 2 64) (Offer (0 ∷ 1 ∷ []) large ∷ Take 1 ∷ [])) 0 ≡ Some large
second_copy = refl

given_back : free_cells (after_all (empty 65536 2 64) (Offer (0 ∷ 1 ∷ []) large ∷ Take 1 ∷ Take 0 ∷ [])) ≡ 65536
given_back = refl

-- ---- cells short: an item of 9,224 bytes takes 145 cells, so 451 fit

cells_of_large : cells_for 9224 ≡ 145
cells_of_large = refl

most_fit : 451 * cells_for 9224 ≤ 65536
most_fit = lit≤ tt

one_too_many : 65536 < 452 * cells_for 9224
one_too_many = lit< tt

-- of three cells two are taken: two more are wanting, and nothing changes
abbrev tight : Lists
tight = after_all (empty 3 2 64) pair

cells_short : offer_answer tight (0 ∷ []) large ≡ CellsFull
cells_short = refl

as_before : after_all tight (Offer (0 ∷ []) large ∷ []) ≡ tight
as_before = refl

-- one cell is enough for a small item, and none is needed where no port has room
small_fits : offer_answer tight (1 ∷ []) small ≡ Queued 1 0
small_fits = refl

no_port : offer_answer (after_all (empty 2 1 1) (Offer (0 ∷ []) large ∷ [])) (0 ∷ []) large ≡ Queued 0 1
no_port = refl

-- ---- two ports of which one is full

abbrev uneven : Lists
uneven = after_all (empty 65536 3 1) (Offer (2 ∷ []) small ∷ Offer (0 ∷ 2 ∷ []) large ∷ [])

one_full : offer_answer (after_all (empty 65536 3 1) (Offer (2 ∷ []) small ∷ [])) (0 ∷ 2 ∷ []) large ≡ Queued 1 1
one_full = refl

has_copy : queue_of uneven 0 ≡ 1 ∷ []
has_copy = refl

keeps_first : queue_of uneven 2 ≡ 0 ∷ []
keeps_first = refl

-- ---- what a port gave and holds is what was queued for it

abbrev calls : List Call
calls = Offer (1 ∷ []) small ∷ Offer (0 ∷ 1 ∷ []) large ∷ Take 1 ∷ Offer (1 ∷ []) small ∷ Take 0 ∷ []

was_queued : queued (empty 65536 2 2) calls 1 ≡ record { number = 0; item = small } ∷ record { number = 1; item = large } ∷ record { number = 2; item = small } ∷ []
was_queued = refl

was_given : given (empty 65536 2 2) calls 1 ≡ record { number = 0; item = small } ∷ []
was_given = refl

is_held : held (after_all (empty 65536 2 2) calls) 1 ≡ record { number = 1; item = large } ∷ record { number = 2; item = small } ∷ []
is_held = refl
