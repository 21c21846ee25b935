-- The definitions of this layer and of those below it, opened together: a theorem that is to hold by computation says
-- `unfolding computed`.
-- Assumes nothing.
use Rattle.std.specs.Prelude.{ℕ}
use Rattle.words.specs.Lists
use Rattle.files.specs.Bytes
use Rattle.files.specs.Case
use Rattle.files.specs.Codes
use Rattle.files.specs.Rewriting
use Rattle.files.specs.Start
use Rattle.files.specs.Writing
use Rattle.replies.specs.Numbers
use Rattle.services.specs.Brackets
use Rattle.services.specs.Guide
use Rattle.services.specs.Judge
use Rattle.services.specs.Listing
use Rattle.services.specs.Memory
use Rattle.services.specs.Replay
use Rattle.services.specs.Run
use Rattle.services.specs.Saturate
use Rattle.models.specs.Files
use Rattle.walks.specs.Computing

unfoldable pub open_bytes : ℕ
unfolding Bytes.number Bytes.field Bytes.records Bytes.kind_of Bytes.count_of Bytes.offset_of Bytes.line_right Bytes.bodies_placed Bytes.placed Bytes.records_of Bytes.first_hit Bytes.tests_on
open_bytes = 0

unfoldable pub open_codes : ℕ
unfolding Codes.our_codes Codes.number_from Codes.our_code Codes.codes_right Codes.in_our_codes
open_codes = 0

unfoldable pub open_case : ℕ
unfolding Case.case_bodies Case.code_body Case.form_of Case.form Case.case_placed Case.head_of Case.head Case.inner1 Case.inner2 Case.existing2 Case.head_right Case.rule_bytes Case.rule_right Case.operation_of Case.rule_of Case.codes_of Case.rule_records Case.edge_bytes Case.edge_right Case.edge_key Case.edge_records Case.entries_of Case.final_entries Case.inner_edges Case.move_of Case.annotation_right Case.move_right Case.move_key Case.move_records Case.states1 Case.records_right Case.increasing Case.case_tests Case.case_refusal Case.own_of Case.rules_of
open_case = 0

unfoldable pub open_start_file : ℕ
unfolding Start.start_bodies Start.start_placed Start.start_of Start.cell_bytes Start.starts_of Start.cell_records Start.order_of Start.refers_to Start.cell_right Start.cells_right Start.start_right Start.start_file_right Start.start_tests Start.start_refusal Start.cell_of Start.cells_of Start.configuration_of Start.start_at Start.configuration_at
open_start_file = 0

unfoldable pub open_rewriting : ℕ
unfolding Writing.bytes_of Writing.flat Writing.line Writing.contents Writing.encode Writing.decode_from Writing.decode Rewriting.ruled Rewriting.rewriting
open_rewriting = 0

unfoldable pub open_brackets : ℕ
unfolding Brackets.between Brackets.symbols_text Brackets.stack_text Brackets.brackets_files Brackets.root_text Brackets.length_tests Brackets.brackets_refusal Brackets.brackets_answer Brackets.brackets_service Brackets.show_input Brackets.shown Brackets.show_text
open_brackets = 0

unfoldable pub open_guide : ℕ
unfolding Guide.guide_lent Guide.guide_files Guide.number_tests Guide.guide_refusal Guide.cell_words Guide.cells_lent Guide.start_named Guide.guide_walk Guide.accepted Guide.open_start Guide.guide_run Guide.guide_left Guide.refused Guide.guide_answer Guide.guide_service
open_guide = 0

unfoldable pub open_replies : ℕ
unfolding Numbers.answer_word Numbers.mark_word Numbers.word_round Numbers.counts_of
open_replies = 0

unfoldable pub open_judge : ℕ
unfolding Judge.judge_lent Judge.judge_files Judge.answer_tests Judge.judge_refusal Judge.won Judge.more_to_add Judge.mark Judge.judge_left Judge.judge_answer Judge.judge_service
open_judge = 0

unfoldable pub open_listing : ℕ
unfolding Listing.ascii Listing.digits_before Listing.decimal Listing.listing_lent Listing.listing_judge Listing.listing_guide Listing.size_line Listing.largest_count Listing.most_line Listing.counts_text Listing.halt_text Listing.reply_text Listing.reply_line Listing.round_won Listing.start_line Listing.start_lines Listing.refused_text Listing.judged_text Listing.listing_text
open_listing = 0

unfoldable pub open_memory : ℕ
unfolding Memory.padded Memory.move_count Memory.with_counts Memory.counted Memory.largest Memory.move_words Memory.entry_words Memory.move_table Memory.entry_table Memory.lent
open_memory = 0

unfoldable pub open_replay : ℕ
unfolding Replay.replay_files Replay.rule_numbers Replay.replay_cells Replay.trace_tests Replay.cell_tests Replay.replay_refusal Replay.taken Replay.replayed Replay.replay_run Replay.replay_reply Replay.replay_service
open_replay = 0

unfoldable pub open_run : ℕ
unfolding Run.run_guide Run.spaced_numbers Run.numbers_text Run.trace_line Run.answer_text Run.run_text Run.with_digit Run.number_named
open_run = 0

unfoldable pub open_saturate : ℕ
unfolding Saturate.saturated Saturate.too_large Saturate.size_tests Saturate.saturate_refusal Saturate.saturate_refused Saturate.saturate_filled Saturate.saturate_answer Saturate.saturate_service
open_saturate = 0

unfoldable pub open_files : ℕ
unfolding Files.two Files.line Files.head_with Files.head Files.rule Files.entry Files.final_entry Files.plain Files.start Files.empty1 Files.symbol Files.empty2 Files.above Files.case_a Files.start_a Files.case_b_with Files.case_b Files.start_b Files.case_b_final Files.start_lone Files.start_empty Files.case_b_twice Files.case_b_named Files.case_b_other Files.case_finished Files.start_finished Files.case_c Files.start_c Files.start_c_c Files.case_circle Files.case_past Files.case_collapse Files.start_collapse Files.case_inner Files.case_more Files.case_none Files.start_none Files.case_brackets Files.start_brackets Files.case_coded Files.tool_codes Files.tool_rules Files.case_tool Files.zero_codes Files.twice_codes Files.case_tool_zero Files.case_tool_twice Files.case_tool_broken Files.case_tool_symbols Files.case_tool_ours Files.case_tool_early Files.case_tool_four Files.case_a_five Files.case_turned Files.case_ways Files.times Files.starts_a Files.rules_a Files.itself_a
open_files = 0

unfoldable pub computed : ℕ
unfolding open_bytes open_codes open_case open_start_file open_rewriting open_replies open_brackets open_guide open_judge open_listing open_memory open_replay open_run open_saturate open_files Computing.computed
computed = 0
