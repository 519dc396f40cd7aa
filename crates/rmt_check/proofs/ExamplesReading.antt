-- Texts of one line, read by hand.
use Rattle.std.proofs.Common.{◌≡◌, ℕ, List, [], ◌∷◌, Some, None, Option}
use Rattle.std.specs.Prelude.{codes}
use Rattle.rmt_lexer.specs.declared.token.TokenKind.TheVariants as token
use Rattle.rmt_syntax.specs.declared.tree.Tree.{Tree, One, Many}
use Rattle.rmt_syntax.specs.declared.tree.Rule.TheVariants as rule
use Rattle.rmt_check.specs.Parts.{Ident, Declared, FieldText, ArmText, Under, NodeText}
use Rattle.rmt_check.specs.declared.source.OwnerText.TheVariants.{Header, Metadata}
use Rattle.rmt_check.specs.declared.source.ArmText.TheVariants.{Hit, Miss}
use Rattle.rmt_check.specs.declared.source.WhatText.TheVariants.{Apply}
use Rattle.rmt_check.specs.Reading.{param_at, field_at, header_at, control_among}
use Rattle.rmt_check.proofs.ReadingLaws.{one, many, added_one, added_is}
use Rattle.rmt_check.proofs.ExampleText.{at, ident, number, plain_header, tail}

-- the tokens at a column of the line
abbrev word : ℕ → List ℕ → Tree
word column w = One (record { line = 1; column = column; what = token.Word w })

abbrev sign : ℕ → List ℕ → Tree
sign column [] = One (record { line = 1; column = column; what = token.End })
sign column (byte ∷ rest) = One (record { line = 1; column = column; what = token.Sign byte })

abbrev digits : ℕ → ℕ → Tree
digits column n = One (record { line = 1; column = column; what = token.Number n })

-- a field or parameter, and its width at another column
abbrev field : ℕ → List ℕ → ℕ → ℕ → Declared
field column w behind n = record { ident = ident column w; width = number behind n }

-- `port: 9`
a_param : (v : List Tree) → v ≡ word 1 (codes "port") ∷ sign 5 (codes ":") ∷ digits 7 9 ∷ []
    → param_at (Many rule.Param v ∷ []) ≡ Some (field 1 (codes "port") 7 9)
a_param v h = simp (many, h, one)

-- `eth.dst`
a_field : (v : List Tree) → v ≡ word 1 (codes "eth") ∷ sign 4 (codes ".") ∷ word 5 (codes "dst") ∷ []
    → field_at (Many rule.Field v ∷ [])
    ≡ (let f : FieldText = record { place = at 1; owner = Header (ident 1 (codes "eth")); ident = ident 5 (codes "dst") } in Some f)
a_field v h = simp (many, h, one)

-- `meta.hop`
a_meta_field : (v : List Tree) → v ≡ word 1 (codes "meta") ∷ sign 5 (codes ".") ∷ word 6 (codes "hop") ∷ []
    → field_at (Many rule.Field v ∷ [])
    ≡ (let f : FieldText = record { place = at 1; owner = Metadata; ident = ident 6 (codes "hop") } in Some f)
a_meta_field v h = simp (many, h, one)

-- `header h { a: 8; b: 16; } next accept;`
a_header : (target next header : List Tree) → target ≡ word 32 (codes "accept") ∷ []
    → next ≡ Many rule.Target target ∷ sign 38 (codes ";") ∷ []
    → header
    ≡ word 1 (codes "header") ∷ word 8 (codes "h") ∷ sign 10 (codes "{") ∷ word 12 (codes "a") ∷ sign 13 (codes ":") ∷ digits 15 8 ∷ sign 16 (codes ";")
    ∷ word 18 (codes "b") ∷ sign 19 (codes ":") ∷ digits 21 16 ∷ sign 23 (codes ";") ∷ sign 25 (codes "}") ∷ word 27 (codes "next")
    ∷ Many rule.Next next ∷ []
    → header_at (Many rule.Header header ∷ []) ≡ Some (plain_header 8 (codes "h") (field 12 (codes "a") 15 8 ∷ field 18 (codes "b") 21 16 ∷ []) None)
a_header target next header t n h = simp (many, one, t, n, h)

-- `header o { n: 8; tail n*4-20; } next accept;`
a_tail : (target next header : List Tree) → target ≡ word 38 (codes "accept") ∷ []
    → next ≡ Many rule.Target target ∷ sign 44 (codes ";") ∷ []
    → header
    ≡ word 1 (codes "header") ∷ word 8 (codes "o") ∷ sign 10 (codes "{") ∷ word 12 (codes "n") ∷ sign 13 (codes ":") ∷ digits 15 8 ∷ sign 16 (codes ";")
    ∷ word 18 (codes "tail") ∷ word 23 (codes "n") ∷ sign 24 (codes "*") ∷ digits 25 4 ∷ sign 26 (codes "-") ∷ digits 27 20 ∷ sign 29 (codes ";")
    ∷ sign 31 (codes "}") ∷ word 33 (codes "next") ∷ Many rule.Next next ∷ []
    → header_at (Many rule.Header header ∷ [])
    ≡ Some (plain_header 8 (codes "o") (field 12 (codes "n") 15 8 ∷ []) (Some (tail 18 23 (codes "n") 25 4 27 20)))
a_tail target next header t n h = simp (many, one, t, n, h)

abbrev node : ℕ → Option Under → Ident → List ArmText → NodeText
node column under table arms = record { place = at column; under = under; what = Apply table arms }

abbrev under : ℕ → ℕ → Option Under
under parent arm = let u : Under = record { parent = parent; arm = arm } in Some u

-- `control { apply t { hit { apply u; } miss { apply v; } } apply w; }`
a_control : (u v w hit_block miss_block hit miss t block control : List Tree)
    → u ≡ word 27 (codes "apply") ∷ word 33 (codes "u") ∷ sign 34 (codes ";") ∷ []
    → v ≡ word 45 (codes "apply") ∷ word 51 (codes "v") ∷ sign 52 (codes ";") ∷ []
    → w ≡ word 58 (codes "apply") ∷ word 64 (codes "w") ∷ sign 65 (codes ";") ∷ []
    → hit_block ≡ sign 25 (codes "{") ∷ Many rule.Stmt u ∷ sign 36 (codes "}") ∷ []
    → miss_block ≡ sign 43 (codes "{") ∷ Many rule.Stmt v ∷ sign 54 (codes "}") ∷ []
    → hit ≡ word 21 (codes "hit") ∷ Many rule.Block hit_block ∷ []
    → miss ≡ word 38 (codes "miss") ∷ Many rule.Block miss_block ∷ []
    → t ≡ word 11 (codes "apply") ∷ word 17 (codes "t") ∷ sign 19 (codes "{") ∷ Many rule.Arm hit ∷ Many rule.Arm miss ∷ sign 56 (codes "}") ∷ []
    → block ≡ sign 9 (codes "{") ∷ Many rule.Stmt t ∷ Many rule.Stmt w ∷ sign 67 (codes "}") ∷ []
    → control ≡ word 1 (codes "control") ∷ Many rule.Block block ∷ []
    → control_among (Many rule.Control control ∷ [])
    ≡ Some (node 11 None (ident 17 (codes "t")) (Hit ∷ Miss ∷ []) ∷ node 27 (under 0 0) (ident 33 (codes "u")) []
    ∷ node 45 (under 0 1) (ident 51 (codes "v")) [] ∷ node 58 None (ident 64 (codes "w")) [] ∷ [])
a_control u v w hit_block miss_block hit miss t block control hu hv hw hhb hmb hh hm ht hb hc =
    simp (many, one, added_is, added_one, hu, hv, hw, hhb, hmb, hh, hm, ht, hb, hc)
