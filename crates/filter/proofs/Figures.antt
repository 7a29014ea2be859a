-- The definitions give each starred figure of document 01: by computing them.
use mathlib.Core.Path.{refl}
use Rattle.ints.specs.Int.{◌⊞◌, ◌⊟◌, neg, ◌⊠◌, lt, ◌>>◌, clip3, abs, nat_of}
use Rattle.filter.specs.Bands.{horizontal_band_end, bands_from, horizontal_bands}
use Rattle.filter.specs.Figures.{AllGiven, figures}
use Rattle.lines.specs.Answer.{case_of}
use Rattle.lines.specs.Chroma.{chroma_delta, chroma_line}
use Rattle.lines.specs.Decision.{activity, d_sam, decision, side_count}
use Rattle.lines.specs.Luma.{clip1, near, strong_line, delta0, side_delta, second, weak_by, weak_line, luma_line}
use Rattle.thresholds.specs.Chroma.{table_qpc, chroma_qp, chroma_tc}
use Rattle.thresholds.specs.Luma.{average_qp, beta_index, tc_index, scaled, luma_beta, luma_tc}
use Rattle.thresholds.specs.Tables.{BETA, TC, QPC}

pub figures_given : AllGiven figures
unfolding ◌⊞◌ ◌⊟◌ neg ◌⊠◌ lt ◌>>◌ clip3 abs nat_of horizontal_band_end bands_from horizontal_bands case_of chroma_delta
    chroma_line activity d_sam decision side_count clip1 near strong_line delta0 side_delta second weak_by weak_line
    luma_line
    table_qpc chroma_qp chroma_tc average_qp beta_index tc_index scaled luma_beta luma_tc BETA TC QPC
figures_given = (
  (refl, refl),
  (
    (refl, refl),
    (
      (refl, refl),
      (
        (refl, refl),
        (
          (refl, refl),
          (
            (refl, refl),
            (
              refl,
              (
                refl,
                (
                  refl,
                  (
                    refl,
                    (refl, (refl, (refl, (refl, ((refl, refl), ((refl, refl), (refl, tt))))))),
                  ),
                ),
              ),
            ),
          ),
        ),
      ),
    ),
  ),
)
