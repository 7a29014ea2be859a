-- Document 01, 'Segment bench': the bytes and the samples of one record. Each definition has the sentence that it is
-- written from.
use Rattle.std.specs.Prelude.{ℕ, ◌+◌, ◌*◌, List, [], ◌∷◌, get_or}
use Rattle.lines.specs.declared.Line.{Line}
use Rattle.bench_record.specs.declared.fields.Head.{Head}

-- "72-byte records: depth, bS, QpP plus 64, QpQ plus 64, beta div2 plus 6, tc div2 plus 6, two zero bytes,"
abbrev pub head_of : List ℕ → Head
head_of r =
    record {
      depth = get_or r 0 0;
      bs = get_or r 1 0;
      qpp = get_or r 2 0;
      qpq = get_or r 3 0;
      beta = get_or r 4 0;
      tc = get_or r 5 0;
      zero6 = get_or r 6 0;
      zero7 = get_or r 7 0;
    }

-- "then four lines of eight 16-bit samples, low byte first, p3 to q3."

-- the sample at byte k
unfoldable pub sample_at : List ℕ → ℕ → ℕ
sample_at r k = get_or r k 0 + 256 * get_or r (k + 1) 0

-- line j, 0 to 3
unfoldable pub line_of_record : List ℕ → ℕ → Line
line_of_record r j =
    record {
      p3 = sample_at r (8 + 16 * j);
      p2 = sample_at r (8 + 16 * j + 2);
      p1 = sample_at r (8 + 16 * j + 4);
      p0 = sample_at r (8 + 16 * j + 6);
      q0 = sample_at r (8 + 16 * j + 8);
      q1 = sample_at r (8 + 16 * j + 10);
      q2 = sample_at r (8 + 16 * j + 12);
      q3 = sample_at r (8 + 16 * j + 14);
    }

-- the four lines
abbrev pub lines_of : List ℕ → List Line
lines_of r = line_of_record r 0 ∷ line_of_record r 1 ∷ line_of_record r 2 ∷ line_of_record r 3 ∷ []
