-- The trees of the program of a sample: its text, line by line.
use Rattle.std.proofs.Common.{◌≡◌, refl, subst, sym, ℕ, zero, suc, ◌+◌, Bool, true, leb, List, [], ◌∷◌, ◌++◌, codes}
use Rattle.std.specs.Prelude.{◌&&◌, nat_le}
use Rattle.std.specs.List.{flat_map}
use Rattle.std.proofs.lemmas.Bool.{and_parts, leb-true}
use Rattle.rmt_lexer.specs.declared.token.Token.{Token}
use Rattle.rmt_lexer.specs.declared.token.TokenKind.TheVariants as kind
use Rattle.rmt_syntax.specs.declared.tree.Rule.TheVariants as rule
use Rattle.rmt_syntax.specs.declared.grammar.Part.TheVariants.{Node}
use Rattle.rmt_syntax.specs.declared.tree.Tree.{Tree, Many}
use Rattle.rmt_syntax.specs.Trees.{IsNested, IsNestedFrom, IsText, IsTreeOf, Mark, depth_after, part, marks, opens, shuts, tokens_in}
use Rattle.rmt_sample.proofs.Forests.{Forest, nil, one, many, run, marks_of, marks_tree, trees}
use Rattle.rmt_sample.proofs.ShapeLaws.{reads}

-- the tokens at a line and a column
abbrev pub word : ℕ → ℕ → List ℕ → Token
word line column w = record { line = line; column = column; what = kind.Word w }

abbrev pub number : ℕ → ℕ → ℕ → Token
number line column n = record { line = line; column = column; what = kind.Number n }

abbrev pub equal : ℕ → ℕ → Token
equal line column = record { line = line; column = column; what = kind.Equal }

-- the end of the text has no byte
abbrev pub sign : ℕ → ℕ → List ℕ → Token
sign line column [] = record { line = line; column = column; what = kind.End }
sign line column (byte ∷ rest) = record { line = line; column = column; what = kind.Sign byte }

-- so many columns behind one
abbrev pub step : ℕ → ℕ → ℕ
step zero column = column
step (suc k) column = step k (column + 1)

-- 0x0800 : ipv4;
abbrev case : Forest
case =
    many rule.Value (one (number 1 61 2048) nil)
    (one (sign 1 68 (codes ":")) (many rule.Target (one (word 1 70 (codes "ipv4")) nil) (one (sign 1 74 (codes ";")) nil)))

-- (kind) { 0x0800 : ipv4; else : accept; }
abbrev select : Forest
select =
    run (sign 1 52 (codes "(") ∷ word 1 53 (codes "kind") ∷ sign 1 57 (codes ")") ∷ sign 1 59 (codes "{") ∷ [])
    (many rule.Case case
    (run (word 1 76 (codes "else") ∷ sign 1 81 (codes ":") ∷ [])
    (many rule.Target (one (word 1 83 (codes "accept")) nil)
    (run (sign 1 89 (codes ";") ∷ sign 1 91 (codes "}") ∷ []) nil))))

-- NAME : NUMBER ; at these columns of a line
abbrev declared : (line column : ℕ) → List ℕ → (colon at width end : ℕ) → List Token
declared line column name colon at width end = word line column name ∷ sign line colon (codes ":") ∷ number line at width ∷ sign line end (codes ";") ∷ []

-- header NAME { FIELDS } next NEXT
abbrev header : (line : ℕ) → List ℕ → (brace : ℕ) → List (List Token) → (close next : ℕ) → Forest → Forest
header line name brace fields close next behind =
    run (word line 1 (codes "header") ∷ word line 8 name ∷ sign line brace (codes "{") ∷ flat_map (λ (ts : List Token). ts) fields)
    (run (sign line close (codes "}") ∷ word line next (codes "next") ∷ []) (many rule.Next behind nil))

-- header eth { dst : 48; src : 48; kind : 16; } next (kind) { 0x0800 : ipv4; else : accept; }
abbrev pub header_eth : Forest
header_eth = header 1 (codes "eth") 12 (declared 1 14 (codes "dst") 18 20 48 22 ∷ declared 1 24 (codes "src") 28 30 48 32 ∷ declared 1 34 (codes "kind") 39 41 16 43 ∷ []) 45 47 select

-- header ipv4 { head : 64; ttl : 8; proto : 8; sum : 16; src : 32; dst : 32; } next accept;
abbrev pub header_ipv4 : Forest
header_ipv4 =
    header 2 (codes "ipv4") 13
    (declared 2 15 (codes "head") 20 22 64 24 ∷ declared 2 26 (codes "ttl") 30 32 8 33 ∷ declared 2 35 (codes "proto") 41 43 8 44 ∷ declared 2 46 (codes "sum") 50 52 16 54
    ∷ declared 2 56 (codes "src") 60 62 32 64 ∷ declared 2 66 (codes "dst") 70 72 32 74 ∷ [])
    76 78 (many rule.Target (one (word 2 83 (codes "accept")) nil) (one (sign 2 89 (codes ";")) nil))

-- action forward(port : 9) { out_port = port; }
abbrev pub action_forward : Forest
action_forward =
    run (word 3 1 (codes "action") ∷ word 3 8 (codes "forward") ∷ sign 3 15 (codes "(") ∷ [])
    (many rule.Param (run (word 3 16 (codes "port") ∷ sign 3 21 (codes ":") ∷ number 3 23 9 ∷ []) nil)
    (run (sign 3 24 (codes ")") ∷ sign 3 26 (codes "{") ∷ [])
    (many rule.Field (one (word 3 28 (codes "out_port")) nil)
    (one (sign 3 37 (codes "="))
    (many rule.Expr (many rule.Leaf (one (word 3 39 (codes "port")) nil) nil)
    (run (sign 3 43 (codes ";") ∷ sign 3 45 (codes "}") ∷ []) nil))))))

-- action discard() { drop = 1; }
abbrev pub action_discard : Forest
action_discard =
    run (word 4 1 (codes "action") ∷ word 4 8 (codes "discard") ∷ sign 4 15 (codes "(") ∷ sign 4 16 (codes ")") ∷ sign 4 18 (codes "{") ∷ [])
    (many rule.Field (one (word 4 20 (codes "drop")) nil)
    (one (sign 4 25 (codes "="))
    (many rule.Expr (many rule.Leaf (one (number 4 27 1) nil) nil)
    (run (sign 4 28 (codes ";") ∷ sign 4 30 (codes "}") ∷ []) nil))))

-- `default discard(); }` at a column
abbrev discards : (line column : ℕ) → Forest
discards line column =
    run (word line column (codes "default") ∷ word line (step 8 column) (codes "discard") ∷ [])
    (run (sign line (step 15 column) (codes "(") ∷ sign line (step 16 column) (codes ")") ∷ [])
    (run (sign line (step 17 column) (codes ";") ∷ sign line (step 19 column) (codes "}") ∷ []) nil))

-- exact eth.dst; actions forward; size N; counted;
abbrev key_macs : (n column : ℕ) → Forest
key_macs n column =
    one (word 5 14 (codes "exact"))
    (many rule.Field (run (word 5 20 (codes "eth") ∷ sign 5 23 (codes ".") ∷ word 5 24 (codes "dst") ∷ []) nil)
    (run (sign 5 27 (codes ";") ∷ word 5 29 (codes "actions") ∷ word 5 37 (codes "forward") ∷ sign 5 44 (codes ";") ∷ [])
    (run (word 5 46 (codes "size") ∷ number 5 51 n ∷ sign 5 column (codes ";") ∷ [])
    (run (word 5 (step 2 column) (codes "counted") ∷ sign 5 (step 9 column) (codes ";") ∷ []) nil))))

-- table macs { exact eth.dst; actions forward; size N; counted; default discard(); }
abbrev pub table_macs : (n column : ℕ) → Forest
table_macs n column =
    run (word 5 1 (codes "table") ∷ word 5 7 (codes "macs") ∷ sign 5 12 (codes "{") ∷ []) (many rule.Key (key_macs n column) (discards 5 (step 11 column)))

-- exact ipv4.dst; actions forward; size N;
abbrev key_hosts : (n column : ℕ) → Forest
key_hosts n column =
    one (word 6 15 (codes "exact"))
    (many rule.Field (run (word 6 21 (codes "ipv4") ∷ sign 6 25 (codes ".") ∷ word 6 26 (codes "dst") ∷ []) nil)
    (run (sign 6 29 (codes ";") ∷ word 6 31 (codes "actions") ∷ word 6 39 (codes "forward") ∷ sign 6 46 (codes ";") ∷ [])
    (run (word 6 48 (codes "size") ∷ number 6 53 n ∷ sign 6 column (codes ";") ∷ []) nil)))

-- table hosts { exact ipv4.dst; actions forward; size N; default discard(); }
abbrev pub table_hosts : (n column : ℕ) → Forest
table_hosts n column =
    run (word 6 1 (codes "table") ∷ word 6 7 (codes "hosts") ∷ sign 6 13 (codes "{") ∷ []) (many rule.Key (key_hosts n column) (discards 6 (step 2 column)))

-- { apply NAME; }
abbrev applies : (brace column behind close : ℕ) → List ℕ → Forest
applies brace column behind close name =
    let apply : Forest = run (word 7 column (codes "apply") ∷ word 7 (column + 6) name ∷ sign 7 behind (codes ";") ∷ []) nil in
    one (sign 7 brace (codes "{")) (many rule.Stmt apply (one (sign 7 close (codes "}")) nil))

-- if (ipv4.valid == 1) { apply hosts; } else { apply macs; }
abbrev choice : Forest
choice =
    run (word 7 11 (codes "if") ∷ sign 7 14 (codes "(") ∷ [])
    (many rule.Field (run (word 7 15 (codes "ipv4") ∷ sign 7 19 (codes ".") ∷ word 7 20 (codes "valid") ∷ []) nil)
    (run (equal 7 26 ∷ number 7 29 1 ∷ sign 7 30 (codes ")") ∷ [])
    (many rule.Block (applies 32 34 45 47 (codes "hosts"))
    (one (word 7 49 (codes "else"))
    (many rule.Block (applies 54 56 66 68 (codes "macs")) nil)))))

-- control { if (ipv4.valid == 1) { apply hosts; } else { apply macs; } }
abbrev pub control : Forest
control =
    one (word 7 1 (codes "control"))
    (many rule.Block (one (sign 7 9 (codes "{")) (many rule.Stmt choice (one (sign 7 70 (codes "}")) nil))) nil)

-- the whole text; behind the sizes it goes on at these columns
abbrev pub program : (n first second : ℕ) → Forest
program n first second =
    many rule.Header header_eth
    (many rule.Header header_ipv4
    (many rule.Action action_forward
    (many rule.Action action_discard
    (many rule.Table (table_macs n first)
    (many rule.Table (table_hosts n second)
    (many rule.Control control (one (sign 8 1 []) nil)))))))

abbrev all_marks : (n first second : ℕ) → List Mark
all_marks n first second = opens rule.Program ∷ (marks_of (program n first second) ++ shuts rule.Program ∷ [])

pub is_text : (n first second : ℕ) → IsText (all_marks n first second)
is_text n first second = reads 400 (all_marks n first second) (part (Node rule.Program) ∷ []) (all_marks n first second) refl

-- ---- the tree

-- no mark has more than 32 open blocks before or behind it, computed
abbrev is_nested : ℕ → List Mark → Bool
is_nested n [] = nat_le n 32
is_nested n (m ∷ ms) = nat_le n 32 && is_nested (depth_after n m) ms

nested : (n : ℕ) (ms : List Mark) → is_nested n ms ≡ true → IsNestedFrom n ms
nested n [] e = leb-true n 32 e
nested n (m ∷ ms) e =
    let both = and_parts (leb n 32) (is_nested (depth_after n m) ms) e in
    (leb-true n 32 both.0, nested (depth_after n m) ms both.1)

abbrev pub tokens : (n first second : ℕ) → List Token
tokens n first second = tokens_in (marks_of (program n first second))

abbrev pub tree : (n first second : ℕ) → Tree
tree n first second = Many rule.Program (trees (program n first second))

pub is_tree : (n first second : ℕ) → IsTreeOf (tokens n first second) (tree n first second)
is_tree n first second =
    let ms = all_marks n first second in
    let are : ms ≡ marks (tree n first second) = sym (marks_tree rule.Program (program n first second)) in
    let yield : tokens_in ms ≡ tokens n first second = refl in
    record {
      grammar = subst IsText are (is_text n first second);
      yield = subst (λ v. tokens_in v ≡ tokens n first second) are yield;
      nested = subst IsNested are (nested 0 ms refl);
    }
