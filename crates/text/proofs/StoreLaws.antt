-- Laws of storing a text piece by piece: what is still to be stored, once stored, gives the buffer with the whole text.
-- Assumes nothing.
use Rattle.std.proofs.Common.{ℕ, ◌+◌, ◌≡◌, refl, sym, ap, ◌∙◌, List, [], ◌++◌, length, arith, length-append}
use Rattle.std.proofs.Math.Seq.{sets}
use Rattle.text.specs.Writing.{Room, Appends}
use Rattle.text.specs.declared.out.Out.{Out}
use Rattle.text.specs.Sinks.{sets-append, appends_length}

-- of a text that was to be appended to o₀, the rest is to be appended to o
pub record Storing (o₀ : Out) (text : List ℕ) (o : Out) (rest : List ℕ) : Type 0 where
  pub room : Room o₀ text
  pub same_buffer : o.buf.ghost_name ≡ o₀.buf.ghost_name
  pub same : length o.buf.now ≡ length o₀.buf.now
  pub total : o.len + length rest ≡ o₀.len + length text
  pub stored : sets o.buf.now o.len rest ≡ sets o₀.buf.now o₀.len text

pub storing_start : (o₀ : Out) (text rest : List ℕ) → Room o₀ text → rest ≡ text → Storing o₀ text o₀ rest
storing_start o₀ text rest h e = rw e (record { room = h; same_buffer = refl; same = refl; total = refl; stored = refl })

module _ (o₀ : Out) (text : List ℕ) (o : Out) (rest : List ℕ) (s : Storing o₀ text o rest) where
  pub storing_room : (x y : List ℕ) → rest ≡ x ++ y → Room o x
  storing_room x y e = omega (arith, s.room, s.same, s.total, ap length e, length-append x y)

  pub storing_more : (x y : List ℕ) (o' : Out) → rest ≡ x ++ y → Appends o x o' → Storing o₀ text o' y
  storing_more x y o' e a = record {
    room = s.room;
    same_buffer = a.same_buffer ∙ s.same_buffer;
    same = appends_length a ∙ s.same;
    total = omega (arith, s.total, a.wrote.next, ap length e, length-append x y);
    stored = rw (a.wrote.bytes, a.wrote.next) (sym (sets-append o.buf.now o.len x y) ∙ ap (sets o.buf.now o.len) (sym e) ∙ s.stored);
  }

  pub storing_end : rest ≡ [] → Appends o₀ text o
  storing_end e = record {
    same_buffer = s.same_buffer;
    wrote = record { next = omega (arith, s.total, ap length e); bytes = sym (ap (sets o.buf.now o.len) e) ∙ s.stored };
  }
