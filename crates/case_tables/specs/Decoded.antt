-- The edges of a case, one by one: an entry more, or an inner edge more.
-- Assumes nothing.
pub mod Laws
use Rattle.std.specs.Prelude.{ℕ, ◌+◌, ◌*◌, ◌≤◌, true, false, ◌≡◌, List, map, length, drop, ltb}
use Rattle.words.specs.Order.{insert}
use Rattle.automata.specs.Automaton.{Edge, choice_key}
use Rattle.files.specs.Case.{Head, EdgeBytes, edge_bytes, inner_edges}
use Rattle.bytes_in.specs.Records.{records_from}
use Rattle.tables.specs.Rows.{rows_in}
use Rattle.tables.specs.Layouts.{edge_row}

-- the inner edge that the bytes of an edge stand for
abbrev pub inner_edge : EdgeBytes → Edge
inner_edge x = record { state = x.state; first = x.first; S = x.S }

-- the inner edges with those of one edge more
unfoldable pub with_inner : Head → EdgeBytes → List Edge → List Edge
with_inner h x l = elim (ltb x.state h.P) [ true ↦ l | false ↦ insert choice_key (inner_edge x) l ]

-- r rows of t' are the inner edges in n rows of t with those of edge x, and the words behind them stand where they stood.
pub record MoreInner (h : Head) (x : EdgeBytes) (t t' : List ℕ) (n r : ℕ) : Type 0 where
  pub rows : rows_in edge_row r t' ≡ with_inner h x (rows_in edge_row n t)
  pub behind : drop (r * 3) t' ≡ drop (r * 3) t
  pub few : r ≤ n + 1
  pub kept : n ≤ r

-- ---- the edges from number i on

-- edges number i and following of a body with n edges
abbrev pub edges_from : List ℕ → ℕ → ℕ → List EdgeBytes
edges_from b n i = map edge_bytes (records_from n 4 i b)

-- k rows of t are the inner edges from number i on, and the words behind them stand as in t₀
pub record InnerFrom (h : Head) (b t₀ t : List ℕ) (n i k : ℕ) : Type 0 where
  pub rows : rows_in edge_row k t ≡ inner_edges h (edges_from b n i)
  pub behind : drop (k * 3) t ≡ drop (k * 3) t₀
  pub few : k + i ≤ n
  pub long : length t ≡ length t₀
