-- What lists of writes make of a word.
use Rattle.std.proofs.Common.{◌≡◌, ◌≢◌, ℕ, zero, suc, ◌+◌, ◌<◌, ◌≤◌, Bool, true, false, cond, eqb, List, [], ◌∷◌, ◌++◌, length, get_or, set, take, map, reverse, Option, Some, None, refl, sym, ap, subst, ◌∙◌, arith}
use Rattle.std.specs.Prelude.{find, option_map, unwrap_or, slice_index, slice_get, max}
use Rattle.std.proofs.lemmas.List.{take_more, map_more, reverse-append, get_or-set_same, get_or-set_other, length-set, get_or-map}
use Rattle.std.proofs.lemmas.Bool.Decides.{nat_tests}
use Rattle.std.specs.Option.{option_or}
use Rattle.rmt_bits.proofs.OptionLaws.{option_or-none}
use Rattle.rmt_chip.specs.Types.{Vliw, Operation}
use Rattle.rmt_memory.specs.declared.looked.Looked.{Looked}
use Rattle.rmt_chip.specs.declared.ran.Ran.{Ran}
use Rattle.rmt_chip.specs.Ran.{running_of, all_running}
use Rattle.rmt_config.specs.declared.config.OpKind.TheVariants as kind
use Rattle.rmt_config.specs.declared.config.Source.TheVariants.{Word}
use Rattle.rmt_config.specs.Life.{Words, Running, op_on, written, word_after}
use Rattle.rmt_chip.specs.declared.write.Write.{Write}
use Rattle.rmt_chip.specs.Writes.{last_on, applied, most_ops}

option_or_assoc : {A : Type 0} (a b c : Option A) → option_or (option_or a b) c ≡ option_or a (option_or b c)
option_or_assoc (Some x) b c = refl
option_or_assoc None b c = refl

-- one more write
pub last_on_push : (xs : List Write) (x : Write) (w : ℕ) → last_on (xs ++ x ∷ []) w ≡ option_or (cond (eqb x.word w) (Some x.value) None) (last_on xs w)
last_on_push [] x w = sym (option_or-none (cond (eqb x.word w) (Some x.value) None))
last_on_push (y ∷ xs) x w =
    ap (λ o. option_or o (cond (eqb y.word w) (Some y.value) None)) (last_on_push xs x w)
    ∙ option_or_assoc (cond (eqb x.word w) (Some x.value) None) (last_on xs w) (cond (eqb y.word w) (Some y.value) None)

find_push : {A : Type 0} (p : A → Bool) (xs : List A) (y : A) → find p (xs ++ y ∷ []) ≡ option_or (find p xs) (cond (p y) (Some y) None)
find_push p [] y = refl
find_push p (x ∷ xs) y = at_test (p x) x (find p (xs ++ y ∷ [])) (find p xs) (cond (p y) (Some y) None) (find_push p xs y)
  where
    at_test : {A : Type 0} (b : Bool) (x : A) (one two three : Option A) → one ≡ option_or two three → cond b (Some x) one ≡ option_or (cond b (Some x) two) three
    at_test true x one two three e = refl
    at_test false x one two three e = e

find_none : {A : Type 0} (p : A → Bool) (xs : List A) (i : ℕ) → i ≤ length xs → ((j : ℕ) (d : A) → j < i → p (get_or xs j d) ≡ false) → find p (take i xs) ≡ None
find_none p xs zero h fails = refl
find_none p [] (suc i) h fails = refl
find_none p (x ∷ xs) (suc i) h fails =
    let here : p x ≡ false = fails 0 x (omega arith) in
    rw here (find_none p xs i (omega (arith, h)) (λ j d b. fails (suc j) d (omega arith)))

-- the operation on a word, among one more operation of an instruction
pub op_on_more : (f : Operation → ℕ) (ops : List Operation) (i : ℕ) (d : Operation) (w : ℕ) → i < length ops
    → ((j k : ℕ) → j < k → k < length ops → slice_index (map (λ (op : Operation). op.word) ops) j < slice_index (map (λ (op : Operation). op.word) ops) k)
    → option_map f (op_on w (take (i + 1) ops)) ≡ option_or (cond (eqb (get_or ops i d).word w) (Some (f (get_or ops i d))) None) (option_map f (op_on w (take i ops)))
op_on_more f ops i d w h rises =
    let op = get_or ops i d in
    let p : Operation → Bool = λ o. eqb o.word w in
    let more : op_on w (take (i + 1) ops) ≡ option_or (op_on w (take i ops)) (cond (eqb op.word w) (Some op) None) =
    ap (find p) (take_more ops i d h) ∙ find_push p (take i ops) op in
    ap (option_map f) more ∙ by_test (eqb op.word w) op (op_on w (take i ops)) (λ e. find_none p ops i (omega arith) (λ j c b. apart j c b e))
  where
    by_test : (b : Bool) (op : Operation) (old : Option Operation) → (b ≡ true → old ≡ None) → option_map f (option_or old (cond b (Some op) None)) ≡ option_or (cond b (Some (f op)) None) (option_map f old)
    by_test true op old none = let e : old ≡ None = none refl in rw e refl
    by_test false op None none = refl
    by_test false op (Some o) none = refl

    apart : (j : ℕ) (c : Operation) → j < i → eqb (get_or ops i d).word w ≡ true → eqb (get_or ops j c).word w ≡ false
    apart j c b e =
        let word : Operation → ℕ = λ o. o.word in
        let less : slice_index (map word ops) j < slice_index (map word ops) i = rises j i b h in
        let at_j : get_or (map word ops) j 0 ≡ (get_or ops j c).word = get_or-map word ops j c 0 (omega arith) in
        let at_i : get_or (map word ops) i 0 ≡ (get_or ops i d).word = get_or-map word ops i d 0 h in
        grind (arith, nat_tests)

-- what stands where no operation does
abbrev pub no_op : Operation
no_op = record { word = 0; low = 0; len = 0; kind = kind.Copy; left = Word 0 0; right = Word 0 0 }

-- a step that adds an operation's write
pub push_step : (due due' init : List Write) (x : Write) (ops : List Operation) (i held : ℕ) (words : Words) → i < length ops
    → ((j k : ℕ) → j < k → k < length ops → slice_index (map (λ (op : Operation). op.word) ops) j < slice_index (map (λ (op : Operation). op.word) ops) k)
    → x.word ≡ (get_or ops i no_op).word → x.value ≡ written words held (get_or ops i no_op) → due' ≡ due ++ x ∷ []
    → ((w : ℕ) → last_on due w ≡ option_or (option_map (written words held) (op_on w (take i ops))) (last_on init w))
    → (w : ℕ) → last_on due' w ≡ option_or (option_map (written words held) (op_on w (take (i + 1) ops))) (last_on init w)
push_step due due' init x ops i held words h rises word value grown before w =
    let f = written words held in
    let op = get_or ops i no_op in
    let more : option_map f (op_on w (take (i + 1) ops)) ≡ option_or (cond (eqb op.word w) (Some (f op)) None) (option_map f (op_on w (take i ops))) =
    op_on_more f ops i no_op w h rises in
    ap (λ (xs : List Write). last_on xs w) grown ∙ last_on_push due x w
    ∙ ap (λ n. option_or (cond (eqb n w) (Some x.value) None) (last_on due w)) word
    ∙ ap (λ n. option_or (cond (eqb op.word w) (Some n) None) (last_on due w)) value
    ∙ ap (option_or (cond (eqb op.word w) (Some (f op)) None)) (before w)
    ∙ sym (option_or_assoc (cond (eqb op.word w) (Some (f op)) None) (option_map f (op_on w (take i ops))) (last_on init w))
    ∙ ap (λ o. option_or o (last_on init w)) (sym more)

-- one more instruction that runs
pub running_more : (code : List Vliw) (looked : List Looked) (rans : List Ran) (i : ℕ) (d : Ran) (words : Words) (w : ℕ) → i < length rans
    → word_after (all_running code looked (take (i + 1) rans)) words w
    ≡ option_or (option_map (written words (running_of code looked (get_or rans i d)).held) (op_on w (running_of code looked (get_or rans i d)).ops)) (word_after (all_running code looked (take i rans)) words w)
running_more code looked rans i d words w h =
    ap (λ (xs : List Running). word_after (reverse xs) words w) (map_more (running_of code looked) rans i d h)
    ∙ ap (λ (xs : List Running). word_after xs words w) (reverse-append (map (running_of code looked) (take i rans)) (running_of code looked (get_or rans i d) ∷ []))

-- no instruction has more operations
pub most-le : (code : List Vliw) (i : ℕ) (v : Vliw) → slice_get code i ≡ Some v → length v.ops ≤ most_ops code
most-le [] i v e = absurd cc
most-le (x ∷ code) zero v e = let same : x ≡ v = cc in subst (λ (y : Vliw). length y.ops ≤ max (length x.ops) (most_ops code)) same (omega arith)
most-le (x ∷ code) (suc i) v e = let rest : length v.ops ≤ most_ops code = most-le code i v e in omega arith

-- a word after the writes
pub applied-word : (writes : List Write) (vector : List ℕ) (w : ℕ) → length vector ≡ 224 → slice_index (applied writes vector) w ≡ unwrap_or (last_on writes w) (slice_index vector w)
applied-word [] vector w h = refl
applied-word (x ∷ xs) vector w h =
    let exists : x.word < length vector = omega (arith, x.exists) in
    applied-word xs (set vector x.word x.value) w (length-set vector x.word x.value ∙ h)
    ∙ by_last (last_on xs w) (eqb x.word w) x.value (get_or (set vector x.word x.value) w 0) (get_or vector w 0)
    (λ e. let same : x.word ≡ w = grind (arith, nat_tests) in ap (λ n. get_or (set vector x.word x.value) n 0) (sym same) ∙ get_or-set_same vector x.word x.value 0 exists)
    (λ e. let other : w ≢ x.word = grind (arith, nat_tests) in get_or-set_other vector x.word w x.value 0 other)
  where
    by_last : (last : Option ℕ) (b : Bool) (value new old : ℕ) → (b ≡ true → new ≡ value) → (b ≡ false → new ≡ old) → unwrap_or last new ≡ unwrap_or (option_or last (cond b (Some value) None)) old
    by_last (Some y) b value new old here there = refl
    by_last None true value new old here there = here refl
    by_last None false value new old here there = there refl

pub length-applied : (writes : List Write) (vector : List ℕ) → length (applied writes vector) ≡ length vector
length-applied [] vector = refl
length-applied (x ∷ xs) vector = length-applied xs (set vector x.word x.value) ∙ length-set vector x.word x.value
