-- What a sink of text has to keep, and that the two sinks keep it: texts that are appended one after the other are appended as one. The
-- proofs of it stand here and not in proofs/, since the sinks' impls name them.
use Rattle.std.specs.Prelude.{ℕ, ◌+◌, ◌<◌, ◌^◌, ◌≡◌, List, [], ◌∷◌, ◌++◌, length, refl}
use Rattle.std.proofs.Common.{suc, set, sym, ap, ◌∙◌, arith, add-zero, suc-add, add-suc, length-append}
use Rattle.text.specs.Writing.{Room, Appends}
use Rattle.std.proofs.Math.Seq.{sets, length-sets}
use Rattle.text.specs.Inner.{Wrote}
use Rattle.text.specs.declared.out.Out.{Out}
use Rattle.text.specs.declared.sink.Width.{Width}

-- to take no text changes nothing, to take two texts one after the other is to take both as one, and where there is room for both
-- there is room for the first, and then for the second
pub record SinkLaws {S : Type 0} (room : S → List ℕ → Type 0) (takes : S → List ℕ → S → Type 0) : Type 0 where
  pub nothing : (s : S) → takes s [] s
  pub both : (s t u : S) (x y : List ℕ) → takes s x t → takes t y u → takes s (x ++ y) u
  pub front : (s : S) (x y : List ℕ) → room s (x ++ y) → room s x
  pub behind : (s t : S) (x y : List ℕ) → room s (x ++ y) → takes s x t → room t y

-- ---- a buffer

pub sets-append : (l : List ℕ) (i : ℕ) (vs ws : List ℕ) → sets l i (vs ++ ws) ≡ sets (sets l i vs) (i + length vs) ws
sets-append l i [] ws = rw (add-zero i)
sets-append l i (v ∷ vs) ws = sets-append (set l i v) (suc i) vs ws ∙ ap (λ (k : ℕ). sets (sets (set l i v) (suc i) vs) k ws) (suc-add i (length vs) ∙ sym (add-suc i (length vs)))

pub wrote_nothing : (buf : List ℕ) (at : ℕ) (text : List ℕ) → text ≡ [] → Wrote buf at text buf at
wrote_nothing buf at text e = rw e (record { next = sym (add-zero at); bytes = refl })

pub wrote_append : {buf₀ x buf₁ y buf₂ : List ℕ} {at p r : ℕ} → Wrote buf₀ at x buf₁ p → Wrote buf₁ p y buf₂ r → Wrote buf₀ at (x ++ y) buf₂ r
wrote_append {buf₀} {x} {buf₁} {y} {buf₂} {at} {p} {r} a b =
    record {
      next = omega (arith, length-append x y);
      bytes = b.bytes ∙ rw (a.bytes, a.next) (sym (sets-append buf₀ at x y));
    }

pub appends_nothing : (o : Out) (text : List ℕ) → text ≡ [] → Appends o text o
appends_nothing o text e = record { same_buffer = refl; wrote = wrote_nothing o.buf.now o.len text e }

pub appends_append : {o o' o'' : Out} {x y : List ℕ} → Appends o x o' → Appends o' y o'' → Appends o (x ++ y) o''
appends_append a b = record { same_buffer = b.same_buffer ∙ a.same_buffer; wrote = wrote_append a.wrote b.wrote }

-- there is as much buffer as before, and so room for what comes next
pub appends_length : {o o' : Out} {x : List ℕ} → Appends o x o' → length o'.buf.now ≡ length o.buf.now
appends_length {o} {o'} {x} a = ap length a.wrote.bytes ∙ length-sets o.buf.now o.len x

pub appends_room : {o o' : Out} {x : List ℕ} (y : List ℕ) → Room o (x ++ y) → Appends o x o' → Room o' y
appends_room {o} {o'} {x} y h a = omega (arith, h, a.wrote.next, appends_length a, length-append x y)

pub out_laws : SinkLaws Room Appends
out_laws = record {
  nothing = λ s. appends_nothing s [] refl;
  both = λ s t u x y a b. appends_append a b;
  front = λ s x y h. omega (arith, length-append x y);
  behind = λ s t x y h a. appends_room y h a;
}

-- ---- a count: it has room for what its word can count
abbrev pub WidthFits : Width → List ℕ → Type 0
WidthFits s text = s.0 + length text < 2 ^ 64

abbrev pub Counts : Width → List ℕ → Width → Type 0
Counts s text t = t.0 ≡ s.0 + length text

pub width_laws : SinkLaws WidthFits Counts
width_laws = record {
  nothing = λ s. omega arith;
  both = λ s t u x y a b. omega (arith, length-append x y);
  front = λ s x y h. omega (arith, length-append x y);
  behind = λ s t x y h a. omega (arith, length-append x y);
}
