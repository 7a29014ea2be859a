-- One read after another, one write after another, and a list converted part by part. Assumes nothing.
use Rattle.std.proofs.Common.{◌≡◌, ◌≤◌, ◌+◌, ◌%◌, ℕ, Bool, true, false, take, ap, List, [], ◌++◌, Option, None, Some, length, sym, refl, ◌∙◌, arith, append_assoc, append-nil, length-append, length-take-le}
use Rattle.std.proofs.Math.Seq.{take-append-add}
use Rattle.std.proofs.lemmas.List.{take-append-le}
use Rattle.std.proofs.lemmas.Bool.{false≢true}
use borrow.Rule.Slice.PartMut.{put_mid, post_of}
use Rattle.std.specs.Io.KnownBytes.{Appends, Consumes, Keeps}
use Rattle.conversion.specs.Converted.{converted}
use Rattle.converted_cells.proofs.Lists.{lists_converted}
use Rattle.conversion_run.specs.Streams.{Converts}

pub reads_none : (left : Option (List ℕ)) → Consumes left left []
reads_none None = tt
reads_none (Some xs) = refl

pub keeps_none : (left rest : Option (List ℕ)) → Keeps left rest → Consumes left rest []
keeps_none None rest k = tt
keeps_none (Some xs) None k = k
keeps_none (Some xs) (Some ys) k = sym k

pub reads_on : (left mid rest : Option (List ℕ)) (xs ys : List ℕ) → Consumes left mid xs → Consumes mid rest ys
    → Consumes left rest (xs ++ ys)
reads_on None mid rest xs ys p q = tt
reads_on (Some u) None rest xs ys p q = absurd p
reads_on (Some u) (Some v) None xs ys p q = q
reads_on (Some u) (Some v) (Some w) xs ys p q = rw (p, q, append_assoc)

pub writes_none : (held : Option (List ℕ)) → Appends held held []
writes_none None = tt
writes_none (Some xs) = sym (append-nil xs)

pub writes_on : (held mid now : Option (List ℕ)) (xs ys : List ℕ) → Appends held mid xs → Appends mid now ys
    → Appends held now (xs ++ ys)
writes_on None mid now xs ys p q = tt
writes_on (Some u) None now xs ys p q = absurd p
writes_on (Some u) (Some v) None xs ys p q = q
writes_on (Some u) (Some v) (Some w) xs ys p q = rw (q, p, append_assoc)

-- whole records, and then another part
pub converts_on : {k n m : ℕ} {full : Bool} {left mid rest held half now : Option (List ℕ)}
    → n % 8 ≡ 0 → k ≡ n + m → Converts n true left mid held half → Converts m full mid rest half now
    → Converts k full left rest held now
converts_on whole e p q =
    let parts : converted (p.bytes ++ q.bytes) ≡ converted p.bytes ++ converted q.bytes =
    lists_converted.in_parts p.bytes q.bytes (rw (p.all refl) whole) in
    record {
      bytes = p.bytes ++ q.bytes;
      at_most = rw length-append (omega (arith, e, p.at_most, q.at_most));
      all = λ f. rw length-append (omega (arith, e, p.all refl, q.all f));
      read = reads_on _ _ _ _ _ p.read q.read;
      written = rw parts (writes_on _ _ _ _ _ p.written q.written);
    }

-- what m more bytes make of the first d
pub taken_on : (d m k : ℕ) (xs ys : List ℕ) → d ≤ length xs → m ≤ length ys
    → take (d + m) (put_mid d k xs ys) ≡ take d xs ++ take m ys
taken_on d m k xs ys hd hm =
    rw (length-take-le d xs hd) at (take-append-add (take d xs) (ys ++ post_of d k xs) m)
    ∙ ap (λ (zs : List ℕ). take d xs ++ zs) (take-append-le m ys (post_of d k xs) hm)

pub converts_none : {n : ℕ} (left held : Option (List ℕ)) → n ≡ 0 → Converts n true left left held held
converts_none left held e =
    let none : converted [] ≡ [] = lists_converted.stays [] (λ n h. absurd (omega (arith, h))) in
    record {
      bytes = [];
      at_most = omega arith;
      all = λ _. sym e;
      read = reads_none left;
      written = rw none (writes_none held);
    }

pub converts_less : {n m : ℕ} {left rest held now : Option (List ℕ)} → n ≤ m → Converts n false left rest held now
    → Converts m false left rest held now
converts_less h p =
    record {
      bytes = p.bytes;
      at_most = omega (arith, h, p.at_most);
      all = λ e. absurd (false≢true e);
      read = p.read;
      written = p.written;
    }
