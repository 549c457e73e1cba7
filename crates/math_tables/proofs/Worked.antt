-- Worked figures with the constants of the sample metrics: the definitions compute them, and a wrong
-- one is refused at its line.
use Rattle.std.proofs.Common.{◌≡◌, refl, [], ◌∷◌, Some, pos, neg_ℤ}
use Rattle.fixed_units.specs.Numbers.{rounded, halved}
use Rattle.fixed_units.specs.Sums.{sum_to, list_to}
use Rattle.fixed_units.specs.declared.boxes.MathBox.{MathBox}
use Rattle.font_metrics.specs.Metrics.{MetricsValue, scale_of, constant_of}
use Rattle.font_metrics.specs.Tables.{no_tables}
use Rattle.math_tables.specs.Cells.{cell_start_of, cell_rise_of, cell_of}
use Rattle.math_tables.specs.Columns.{columns_of}
use Rattle.math_tables.specs.Placing.{start_of, cell_x_of, row_of_cells_of, top_of, table_ascent_of, baseline_of, row_offsets_of, table_width_of, table_frame_of}

-- 1024 design units to the em, the x-height 512 and the axis at 256
abbrev sample : MetricsValue
sample = record {
  version = 1;
  upem = 1024;
  line_ascent = 900;
  line_descent = 300;
  x_height = 512;
  overlap = Some 50;
  constants = (5, pos 256) ∷ [];
  glyphs = [];
  characters = [];
  tables = no_tables;
  operators = [];
}

-- the digit 1 at 16 px
abbrev one : MathBox
one = record {
  width = pos 8192;
  ascent = pos 14400;
  descent = pos 4800;
  ink_ascent = pos 10880;
  ink_descent = pos 0;
  italic = pos 0;
  accent = pos 4096;
}

-- a cell of it: 6554 at both ends, 4096 above and below
abbrev cell : MathBox
cell = record one { width = pos 21300; ascent = pos 18496; descent = pos 8896; accent = pos 10650 }

cell-one : cell_of sample one (pos 16384) ≡ cell
unfolding cell_of cell_start_of cell_rise_of scale_of rounded halved
cell-one = refl

columns-equal : columns_of ((pos 21300 ∷ pos 21300 ∷ pos 21300 ∷ []) ∷ (pos 21300 ∷ pos 21300 ∷ pos 21300 ∷ []) ∷ []) ≡ pos 21300 ∷ pos 21300 ∷ pos 21300 ∷ []
unfolding columns_of list_to
columns-equal = refl

-- where the first cell is 29492 wide, so is its column, and the table 72092
columns-wider_cell : columns_of ((pos 29492 ∷ pos 21300 ∷ pos 21300 ∷ []) ∷ (pos 21300 ∷ pos 21300 ∷ pos 21300 ∷ []) ∷ []) ≡ pos 29492 ∷ pos 21300 ∷ pos 21300 ∷ []
unfolding columns_of list_to
columns-wider_cell = refl

table-wider_cell : table_width_of (pos 29492 ∷ pos 21300 ∷ pos 21300 ∷ []) ≡ pos 72092
unfolding start_of sum_to
table-wider_cell = refl

-- a wider cell in the second row, and rows of different lengths
columns-ragged : columns_of ((pos 5 ∷ []) ∷ (pos 3 ∷ pos 4 ∷ []) ∷ [] ∷ (pos 9 ∷ pos 1 ∷ neg_ℤ (pos 2) ∷ []) ∷ []) ≡ pos 9 ∷ pos 4 ∷ neg_ℤ (pos 2) ∷ []
unfolding columns_of list_to
columns-ragged = refl

-- in a column of 29492 a cell of 21300 has 4096 free ahead of it
row-under_wider_cell : (row_of_cells_of (cell ∷ cell ∷ cell ∷ []) (pos 29492 ∷ pos 21300 ∷ pos 21300 ∷ []) (pos 72092)).offsets ≡ pos 4096 ∷ pos 29492 ∷ pos 50792 ∷ []
unfolding cell_x_of start_of sum_to list_to halved
row-under_wider_cell = refl

-- of an odd rest the odd unit is behind the cell
row-odd_rest : (row_of_cells_of (cell ∷ []) (pos 21303 ∷ []) (pos 21303)).offsets ≡ pos 1 ∷ []
unfolding cell_x_of start_of sum_to list_to halved
row-odd_rest = refl

-- a row without cells is as wide as the table
row-no_cells : (row_of_cells_of [] [] (pos 63900)).frame ≡ record { width = pos 63900; ascent = pos 0; descent = pos 0; ink_ascent = pos 0; ink_descent = pos 0; italic = pos 0; accent = pos 31950 }
unfolding halved
row-no_cells = refl

-- three such rows: 82176 high, half of it above the axis
abbrev row : MathBox
row = record cell { width = pos 63900; accent = pos 31950 }

table-three_rows : table_frame_of sample (row ∷ row ∷ row ∷ []) (pos 21300 ∷ pos 21300 ∷ pos 21300 ∷ []) (pos 16384) ≡ record {
  width = pos 63900;
  ascent = pos 45184;
  descent = pos 36992;
  ink_ascent = pos 45184;
  ink_descent = pos 36992;
  italic = pos 0;
  accent = pos 31950;
}
unfolding table_ascent_of top_of start_of sum_to constant_of scale_of rounded halved
table-three_rows = refl

lines-three_rows : row_offsets_of sample (row ∷ row ∷ row ∷ []) (pos 16384) ≡ neg_ℤ (pos 26688) ∷ pos 704 ∷ pos 28096 ∷ []
unfolding table_ascent_of baseline_of top_of sum_to list_to constant_of scale_of rounded halved
lines-three_rows = refl

-- a table without rows lies on the axis
table-no_rows : (table_frame_of sample [] [] (pos 16384)).descent ≡ neg_ℤ (pos 4096)
unfolding table_ascent_of top_of sum_to constant_of scale_of rounded halved
table-no_rows = refl
