-- For whoever computes with the definitions: `unfolding everything` opens them all. It says nothing itself.
use Rattle.definitions.specs.Lists
use Rattle.definitions.specs.Sheet.Text
use Rattle.definitions.specs.Refusal
use Rattle.definitions.specs.Sheet.Relations
use Rattle.definitions.specs.Problem.Rows
use Rattle.definitions.specs.Sheet.Formula
use Rattle.definitions.specs.Sheet.Parsing
use Rattle.definitions.specs.Sheet.Sheets
use Rattle.definitions.specs.Problem.Truth
use Rattle.definitions.specs.Problem.Tree
use Rattle.definitions.specs.Problem.Atoms
use Rattle.definitions.specs.Problem.Actions
use Rattle.definitions.specs.Problem.Strips
use Rattle.definitions.specs.Problem.Built
use Rattle.definitions.specs.Reply.Outcome
use Rattle.definitions.specs.Reply.Demand
use Rattle.definitions.specs.Reply.Desk
use Rattle.definitions.specs.Reply.Rewritten
use Rattle.definitions.specs.Reply.Layers
use Rattle.definitions.specs.Reply.Tries
use Rattle.definitions.specs.Reply.Tally
use Rattle.definitions.specs.Reply.Finding
use Rattle.definitions.specs.Reply.Monotone
use Rattle.definitions.specs.Reply.Allowance
use Rattle.definitions.specs.Reply.Page
use Rattle.definitions.specs.Reply.Lifted
use Rattle.definitions.specs.Reply.Pddl
use Rattle.definitions.specs.Reply.PddlMeaning

unfoldable pub everything : Unit {0}
unfolding Lists.all Lists.any Lists.filter Lists.flat_map Lists.map_from Lists.option Lists.is_some Lists.listed Lists.position Lists.find Lists.from Lists.below Lists.last Lists.is_in Lists.rank Lists.up_to Lists.before Lists.greatest Lists.sum Lists.same Lists.is_empty
    Text.on_first Text.split Text.lines_from Text.lines Text.fields Text.is_between Text.is_digit Text.decimal_value Text.no_leading_zero Text.number Text.decimal_in Text.decimal Text.is_capital Text.is_relation_name Text.is_small Text.is_variable
    Refusal.◌>>=◌ Refusal.refuse_if Refusal.given Refusal.read_lines Refusal.read_text
    Relations.is_chosen Relations.is_universal Relations.is_function Relations.is_injective Relations.is_total Relations.built_in Relations.built_in_holds Relations.number_of Relations.is_declared Relations.same_tuple Relations.is_among Relations.are_distinct
    Parsing.begins Parsing.want Parsing.span Parsing.read_word Parsing.read_var Parsing.read_each Parsing.read_type Parsing.read_typed Parsing.read_parts Parsing.kind_of Parsing.read_join Parsing.read_quant Parsing.read_lit Parsing.read_neg Parsing.read_imp Parsing.read Parsing.read_formula
    Formula.write_each Formula.variables_of Formula.type_number Formula.sort_named Formula.sort_of Formula.totals Formula.all_forms Formula.is_bound Formula.are_new Formula.forms Formula.nesting Formula.is_known Formula.is_scoped Formula.is_type Formula.has_type Formula.is_typed
    Sheets.arity_of Sheets.every_arity_of Sheets.kind_named Sheets.choose_of Sheets.element Sheets.elements Sheets.label_of Sheets.member_of Sheets.with_one Sheets.with_two
    Sheets.with_elements Sheets.entry Sheets.entry_of Sheets.relations Sheets.is_ruled Sheets.is_new_name Sheets.add_rel Sheets.add_type Sheets.place_sort
    Sheets.add_choose Sheets.add_every Sheets.add_rule Sheets.add_to_question Sheets.question_line Sheets.read_question Sheets.relations_of Sheets.first_rel
    Sheets.first_chosen Sheets.every_number Sheets.element_named Sheets.name_of Sheets.element_of Sheets.elements_of Sheets.is_in_range Sheets.used Sheets.add_tuple
    Sheets.is_member Sheets.has_member Sheets.add_size Sheets.is_taken Sheets.add_label Sheets.add_member Sheets.add_fact Sheets.add_to_site Sheets.site_line
    Sheets.read_site Sheets.add_to_picks Sheets.picks_line Sheets.read_picks Sheets.add_to_steps Sheets.steps_line Sheets.read_steps
    Truth.holds Truth.value_of Truth.members_of Truth.range_of Truth.for_every Truth.for_some Truth.each_chosen Truth.is_total_in Truth.are_total Truth.every_tuples Truth.values Truth.is_odd Truth.digit Truth.every_value Truth.rule_holds Truth.rule_is_true Truth.two Truth.first Truth.second Truth.is_inside Truth.is_of_kind Truth.are_of_kinds Truth.first_of_other_kind Truth.is_pick Truth.are_picks Truth.is_true
    Tree.nest Tree.leaf_of Tree.totalities Tree.joined Tree.tree_of Tree.parts_from Tree.parts Tree.how_many Tree.is_forall Tree.node_sort Tree.free Tree.as_is Tree.nodes Tree.occurs
    Rows.row_of Rows.places_of Atoms.item_at Atoms.count_of Atoms.problem_with Atoms.problem_of Atoms.relation_at Atoms.node_at Atoms.tuples_of Atoms.rows_of
    Atoms.node_width Atoms.first_tuples Atoms.last_tuples Atoms.relation_blocks Atoms.relations_blocks Atoms.nodes_blocks Atoms.last_blocks Atoms.lasts_blocks Atoms.atom_blocks Atoms.atoms Atoms.node_atoms Atoms.relation_start
    Atoms.node_start Atoms.last_start Atoms.tuple_start Atoms.atom_number Atoms.tuple_holds Atoms.is_initial Atoms.initial Atoms.words_for Atoms.bits_from Atoms.state_words
    Actions.action_kind Actions.action_subject Actions.action_row Actions.action_choice Actions.choices Actions.prove_node Actions.is_settable
    Actions.set_rows Actions.sets_of Actions.set_blocks Actions.proofs_of Actions.proof_blocks Actions.finish Actions.mark_blocks Actions.action_blocks Actions.actions Actions.action_at
    Actions.set_start Actions.proof_start Actions.proof_number Actions.marks_before Actions.range_at Actions.action_number Actions.values_in Actions.with_value Actions.values_at
    Actions.part_atom Actions.part_atoms Actions.under_atom Actions.free_atoms Actions.forall_needs Actions.root_atom Actions.mark_or_goal Actions.nodes_atoms Actions.needs Actions.adds Actions.removes
    Strips.may_take Strips.after Strips.reaches_from Strips.reaches_goal Strips.run_from Strips.run Strips.pick_of Strips.picks_of
    Built.is_true_at Built.least Built.step_for Built.true_rows Built.node_steps Built.chosen_numbers Built.is_picked Built.picked_rows Built.set_steps
    Built.marks_from Built.marks_after Built.round_steps Built.built_actions Built.built_steps Built.true_atoms Built.built_count Built.most_picks Built.bound Built.pick_exponent Built.node_exponent Built.bound_exponents
    Built.polynomial Built.bound_polynomial Built.tree_holds
    Outcome.reply_number Outcome.reply_place Outcome.refusal_place Outcome.told Outcome.read_filed Outcome.read_case Outcome.too_many_values Outcome.without_every Outcome.ground Outcome.read_problem
    Outcome.asked Outcome.nothing Outcome.room_for Outcome.state_length Outcome.written Outcome.span_of Outcome.rule_part Outcome.sizes_of Outcome.sizes
    Outcome.action Outcome.relation_words Outcome.picks_length Outcome.pick_words Outcome.bit_of Outcome.relation_picks Outcome.lent_picks
    Outcome.has_spare Outcome.spare_word Outcome.take_steps Outcome.text_picks Outcome.picks_room Outcome.spare_refusal Outcome.take_picks
    Outcome.ready_to_run Outcome.checked_from Outcome.check_steps Outcome.picks_if_accepted Outcome.picks_read_from Outcome.picks_from_steps
    Outcome.kind_refusal Outcome.satisfying Outcome.plan Outcome.built_from Outcome.build_steps
    Demand.is_accepted Demand.case_is_accepted Demand.steps_are_accepted Demand.are_same_picks
    Desk.is_record Desk.is_rule Desk.is_step Desk.is_pick_or_step Desk.after_rule Desk.first_pick_or_step Desk.site_and_rest Desk.after_question Desk.cut_at
    Desk.sheets Desk.print_line Desk.sizes_line Desk.count_line Desk.said Desk.pick_line Desk.step_line Desk.report Desk.printed Desk.checked_plan
    Desk.starts_with_step Desk.answer_of Desk.answer Desk.desk
    Rewritten.field_in_numbers Rewritten.fields_in_numbers Rewritten.line_in_numbers Rewritten.in_numbers
    Layers.most Layers.fewest Layers.wider Layers.window Layers.case_window Layers.disturbs Layers.are_apart Layers.may_take_all Layers.after_all
    Layers.actions_at Layers.run_layers_from Layers.run_layers Layers.join Layers.join_each Layers.built_layers Layers.flat Layers.ends_from
    Layers.layers_from Layers.ends_test Layers.take_layers Layers.window_of Layers.layers_checked_from Layers.check_layers Layers.layered_plan
    Layers.layers_built_from Layers.build_layers
    Tries.try_list Tries.tried Tries.ready_to_try Tries.tried_from Tries.try_lists
    Tally.no_walk Tally.then_walk Tally.visit Tally.walk Tally.walked Tally.tally_of Tally.tally
    Finding.cells_of Finding.cells Finding.numbered Finding.meets Finding.least_number Finding.least_picks Finding.found_words Finding.found_from Finding.find
    Monotone.wants_more Monotone.only_wants_more Monotone.monotone
    Allowance.mentions Allowance.allowance Allowance.allowances_of Allowance.allowed_from Allowance.allowances
    Page.spaces Page.left Page.right Page.kind_word Page.subject_word Page.free_values Page.shown_elements Page.part_word Page.units Page.packed Page.step_head
    Page.headed Page.step_lines Page.lines_of Page.blank_line Page.ended_line Page.pages Page.page_lines Page.page_text Page.page_of Page.laid Page.page_if_laid
    Page.paged_from Page.page_rooms Page.lay_page
    Lifted.predicate_kind Lifted.predicate_of Lifted.same_fact Lifted.is_said Lifted.term_value Lifted.said_of Lifted.name_kind Lifted.name_subject
    Lifted.name_part Lifted.same_name Lifted.relation_in Lifted.node_in Lifted.last_in Lifted.term_at Lifted.with_term Lifted.own_terms
    Lifted.part_pattern Lifted.part_patterns Lifted.under_pattern Lifted.used_up Lifted.set_schema Lifted.proof_schema Lifted.schema_of
    Lifted.set_names Lifted.node_names Lifted.action_names Lifted.schemas Lifted.relation_predicates Lifted.predicates Lifted.node_places
    Lifted.places_in Lifted.tuples_over Lifted.each_said Lifted.relation_facts Lifted.facts_of Lifted.may_apply Lifted.applied Lifted.schema_named
    Lifted.is_plan_from Lifted.is_plan
    Pddl.object_word Pddl.parameter_word Pddl.term_word Pddl.node_word Pddl.predicate_word Pddl.action_word Pddl.bracketed
    Pddl.indented Pddl.write_fact Pddl.write_pattern Pddl.conjoined Pddl.constants Pddl.predicate_line Pddl.schema_text Pddl.domain_text
    Pddl.instance_text Pddl.plan_step Pddl.plan_from Pddl.plan_of Pddl.step_text Pddl.plan_text Pddl.small Pddl.folded
    Pddl.is_word_byte Pddl.is_word Pddl.closed Pddl.words_in Pddl.add_plan_line Pddl.read_plan_lines Pddl.name_from Pddl.object_from Pddl.objects_from
    Pddl.action_named Pddl.step_from Pddl.steps_from Pddl.no_types Pddl.ready_for_pddl Pddl.text_from Pddl.fitting Pddl.write_domain
    Pddl.write_instance Pddl.plan_written Pddl.write_plan Pddl.plan_steps Pddl.plan_read_from Pddl.read_plan
    PddlMeaning.listed PddlMeaning.unlisted PddlMeaning.grouped PddlMeaning.with_word PddlMeaning.in_all PddlMeaning.is_blank PddlMeaning.closing PddlMeaning.taking PddlMeaning.taking_all
    PddlMeaning.nowhere PddlMeaning.expressions PddlMeaning.letters_of PddlMeaning.members_in PddlMeaning.begins PddlMeaning.each
    PddlMeaning.as_word PddlMeaning.as_words PddlMeaning.conjuncts PddlMeaning.negated PddlMeaning.atoms_in PddlMeaning.added_in
    PddlMeaning.removed_in PddlMeaning.has_key PddlMeaning.operator_in PddlMeaning.section PddlMeaning.only_one PddlMeaning.task_from
    PddlMeaning.task_of PddlMeaning.same_words PddlMeaning.is_among_atoms PddlMeaning.in_place_of PddlMeaning.atom_at PddlMeaning.may_run
    PddlMeaning.after_run PddlMeaning.runs_from PddlMeaning.steps_in PddlMeaning.is_plan_of
everything = tt
