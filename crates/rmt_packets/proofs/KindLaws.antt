-- What a line is follows from its front, and from the packet that it says.
use Rattle.std.proofs.Common.{◌≡◌, ◌≢◌, ℕ, suc, true, eqb, List, [], ◌∷◌, Ok, Err, take, refl, ap, sym, ◌∙◌, subst, inl, inr}
use Rattle.std.specs.Prelude.{codes}
use Rattle.std.specs.Str.{bytes_eq}
use Rattle.std.proofs.lemmas.Bool.{and_parts, cases_Bool, eqb-true, false≢true}
use Rattle.std.proofs.lemmas.Slice.Eq.{bytes_eq-Decides}
use Rattle.rmt_bits.specs.Packet.{Packet as PacketOf}
use Rattle.rmt_packets.specs.declared.line_kind.LineKind.{LineKind}
use Rattle.rmt_packets.specs.declared.line_kind.LineKind.TheVariants.{Addition, Removal, Commit, Packet}
use Rattle.rmt_packets.specs.LineKinds.{begins_with, kind_of}
use Rattle.rmt_packets.specs.PacketText.{packet_of}
use Rattle.rmt_packets.specs.Pieces.{front_of}
use Rattle.rmt_packets.proofs.StandsLaws.{front_size_is}

-- a front of 7 bytes or more tells it
kind_of_take : (n : ℕ) (line : List ℕ) → kind_of (take (suc (suc (suc (suc (suc (suc (suc n))))))) line) ≡ kind_of line
kind_of_take n [] = refl
kind_of_take n (a ∷ []) = refl
kind_of_take n (a ∷ b ∷ []) = refl
kind_of_take n (a ∷ b ∷ c ∷ []) = refl
kind_of_take n (a ∷ b ∷ c ∷ d ∷ []) = refl
kind_of_take n (a ∷ b ∷ c ∷ d ∷ e ∷ []) = refl
kind_of_take n (a ∷ b ∷ c ∷ d ∷ e ∷ f ∷ []) = refl
kind_of_take n (a ∷ b ∷ c ∷ d ∷ e ∷ f ∷ g ∷ rest) = refl

pub kind_of_front : (line : List ℕ) → kind_of (front_of line) ≡ kind_of line
kind_of_front line = ap (λ n. kind_of (take n line)) front_size_is ∙ kind_of_take 18437 line

-- a line that begins with a sign says no packet
signed : (sign : ℕ) (line : List ℕ) → ((rest : List ℕ) → packet_of (sign ∷ rest) ≡ Err 1) → begins_with sign line ≡ true → packet_of line ≡ Err 1
signed sign [] none e = absurd (false≢true e)
signed sign (x ∷ []) none e = absurd (false≢true e)
signed sign (x ∷ y ∷ rest) none e =
    subst (λ (b : ℕ). packet_of (b ∷ y ∷ rest) ≡ Err 1) (sym (eqb-true x sign (and_parts (eqb x sign) (eqb y 32) e).0)) (none (y ∷ rest))

-- a line that is no packet's says none
pub other_kinds : (line : List ℕ) → kind_of line ≢ Packet → packet_of line ≡ Err 1
other_kinds line not =
    elim (cases_Bool (begins_with 43 line)) [
      | inl e ↦ signed 43 line (λ rest. refl) e
      | inr first ↦ elim (cases_Bool (begins_with 45 line)) [
        | inl e ↦ signed 45 line (λ rest. refl) e
        | inr second ↦ elim (cases_Bool (bytes_eq line (codes "commit"))) [
          | inl e ↦ subst (λ (l : List ℕ). packet_of l ≡ Err 1) (sym ((bytes_eq-Decides line (codes "commit")).0 e)) refl
          | inr third ↦ absurd (not (rw (first, second, third) refl))
        ]
      ]
    ]

-- a line that says a packet is a packet's
pub packet_kind : (line : List ℕ) (p : PacketOf) → packet_of line ≡ Ok p → kind_of line ≡ Packet
packet_kind line p says = by (kind_of line) refl
  where
    no : (k : LineKind) → kind_of line ≡ k → k ≢ Packet → kind_of line ≡ Packet
    no k is not = absurd (let e : Err 1 ≡ Ok p = sym (other_kinds line (λ other. not (sym is ∙ other))) ∙ says in cc)

    by : (k : LineKind) → kind_of line ≡ k → kind_of line ≡ Packet
    by Packet is = is
    by Addition is = no Addition is (λ e. cc)
    by Removal is = no Removal is (λ e. cc)
    by Commit is = no Commit is (λ e. cc)
