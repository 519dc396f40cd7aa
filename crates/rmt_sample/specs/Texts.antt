-- The texts of a large input that is made from a number: a program with two exact tables of n entries, these entries, and 2n packets.
use Rattle.std.specs.Prelude.{ℕ, ◌+◌, ◌*◌, ◌%◌, ◌^◌, List, ◌∷◌, ◌++◌, ◌==◌, if◌then◌else◌, codes, replicate}
use Rattle.std.specs.List.{flat_map, range_with_len}
use Rattle.std.specs.Fmt.{decimal}
use Rattle.std.specs.Int.{bytes_high_first}
use Rattle.hex.specs.Hex.{encode_lower}

-- ---- the program

-- the text before the size of the first table
abbrev pub before_size : List ℕ
before_size = codes "header eth { dst : 48; src : 48; kind : 16; } next (kind) { 0x0800 : ipv4; else : accept; }\nheader ipv4 { head : 64; ttl : 8; proto : 8; sum : 16; src : 32; dst : 32; } next accept;\naction forward(port : 9) { out_port = port; }\naction discard() { drop = 1; }\ntable macs { exact eth.dst; actions forward; size "

-- between the two sizes
abbrev pub between_sizes : List ℕ
between_sizes = codes "; counted; default discard(); }\ntable hosts { exact ipv4.dst; actions forward; size "

-- and behind the second
abbrev pub behind_sizes : List ℕ
behind_sizes = codes "; default discard(); }\ncontrol { if (ipv4.valid == 1) { apply hosts; } else { apply macs; } }\n"

-- two exact tables, each of n entries
abbrev pub program_text : ℕ → List ℕ
program_text n = before_size ++ (decimal n ++ (between_sizes ++ (decimal n ++ behind_sizes)))

-- ---- the entries

-- the address of station i; the factor is odd, so those of different numbers below 2^32 differ
abbrev pub station : ℕ → ℕ
station i = 2199023255552 + i * 2654435761 % 2 ^ 32

-- the address of host i, likewise
abbrev pub host : ℕ → ℕ
host i = i * 2246822519 % 2 ^ 32

-- an entry that sends the packets to an address by port i mod 512
abbrev pub entry_line : List ℕ → ℕ → ℕ → List ℕ
entry_line table address i = table ++ (codes " " ++ (decimal address ++ (codes " forward " ++ (decimal (i % 512) ++ codes "\n"))))

abbrev pub station_line : ℕ → List ℕ
station_line i = entry_line (codes "macs") (station i) i

abbrev pub host_line : ℕ → List ℕ
host_line i = entry_line (codes "hosts") (host i) i

-- an entry for each of n stations, and then for each of n hosts
abbrev pub entries_text : ℕ → List ℕ
entries_text n = flat_map station_line (range_with_len 0 n) ++ flat_map host_line (range_with_len 0 n)

-- ---- the packets

-- an Ethernet header from station 0x000000000000, of 14 bytes
abbrev pub ethernet : ℕ → ℕ → List ℕ
ethernet to kind = bytes_high_first 6 to ++ (replicate 6 0 ++ bytes_high_first 2 kind)

-- an IPv4 header from address 0 with a time to live of 64 and protocol 17, of 20 bytes
abbrev pub internet : ℕ → List ℕ
internet to = replicate 8 0 ++ (64 ∷ 17 ∷ replicate 6 0 ++ bytes_high_first 4 to)

-- frame j: to station j where j is even, else to host j
abbrev pub frame : ℕ → List ℕ
frame j = if j % 2 == 0 then ethernet (station j) 2054 else ethernet (station 0) 2048 ++ internet (host j)

-- packet j comes on port j mod 512
abbrev pub packet_line : ℕ → List ℕ
packet_line j = decimal (j % 512) ++ (codes " " ++ (encode_lower (frame j) ++ codes "\n"))

-- 2n packets, of which those with a number below n are sent
abbrev pub packets_text : ℕ → List ℕ
packets_text n = flat_map packet_line (range_with_len 0 (2 * n))
