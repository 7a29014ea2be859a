-- The line of a tile. oracle/README.md: "picture number, tile column, tile row, and the list that is one off its
-- length, or 0; then" the answer in words.
use Rattle.std.specs.Prelude.{ℕ, List, [], ◌∷◌, ◌++◌, codes, decimal, Result, Ok, Err}
use Rattle.fingerprint.specs.Fnv.{plane_fingerprint}
use Rattle.ledger.specs.Numbered.{refused}
use Rattle.picture.specs.Picture.{Planes}
use Rattle.picture_text.specs.Lines.{space, line_end, fingerprints_text}
use Rattle.picture_text.specs.declared.words.Fingerprints.{Fingerprints}
use Rattle.tile_check.specs.declared.TileRefusal.{TileRefusal}
use Rattle.tile_check.specs.declared.TileRefusal.TheVariants.{Picture, NoTile, Lengths}
use Rattle.tile_parts.specs.declared.CutSize.{CutSize}
use Rattle.tile_run.specs.declared.line.Trial.{Trial}

unfoldable pub trial_text : Trial → List ℕ
trial_text t =
    decimal t.number ++ space ++ decimal t.at.column ++ space ++ decimal t.at.row ++ space ++ decimal t.wrong

-- the planes of a cut of these sizes
unfoldable pub cut_fingerprints : CutSize → CutSize → Planes → Fingerprints
cut_fingerprints luma chroma cut = record {
  y = plane_fingerprint cut.y luma.width luma.height;
  cb = plane_fingerprint cut.cb chroma.width chroma.height;
  cr = plane_fingerprint cut.cr chroma.width chroma.height;
}

unfoldable pub differing_line : Trial → ℕ → Fingerprints → List ℕ
differing_line t count prints =
    trial_text t ++ codes " differing " ++ decimal count ++ space ++ fingerprints_text prints ++ line_end

-- the answer, and of a cut that was filtered the fingerprints
abbrev pub tile_line : Trial → Result ℕ TileRefusal → Fingerprints → List ℕ
tile_line t (Ok count) prints = differing_line t count prints
tile_line t (Err (Picture r)) prints =
    trial_text t ++ codes " refused " ++ decimal (refused r).number ++ space ++ decimal (refused r).place ++ line_end
tile_line t (Err NoTile) prints = trial_text t ++ codes " no tile" ++ line_end
tile_line t (Err Lengths) prints = trial_text t ++ codes " lengths" ++ line_end
