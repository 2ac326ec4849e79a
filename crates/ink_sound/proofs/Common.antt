-- Names that several files of proofs here use.
pub use Rattle.std.proofs.lemmas.Bool.{and_from, and_parts, cases_Bool, cond_both}
pub use Rattle.std.proofs.lemmas.Bool.Decides.{nat_tests}
pub use Rattle.std.proofs.lemmas.Cmp.{nat_list_cmp_total}
pub use Rattle.std.proofs.lemmas.Slice.Eq.{bytes_eq-Decides}
pub use Rattle.std.specs.Cmp.Lexicographic.{slice_cmp}
pub use Rattle.std.specs.List.{AllByRecursion as Each, list_all}
pub use Rattle.std.specs.Option.{option_map, ok_or, option_or}
pub use Rattle.ink_model.specs.Choices.Choosing.{chosen, jump_place, jumped, open_choice}
pub use Rattle.ink_model.specs.Flow.Bases.{BaseFirst}
pub use Rattle.ink_model.specs.Flow.Frames.{FrameOf, ThreadOf}
pub use Rattle.ink_model.specs.Host.Bindings.{Bindings, value_given}
pub use Rattle.ink_model.specs.Host.Events.{items_of}
pub use Rattle.ink_model.specs.Memory.Refusals.{FallsShort, LineFallsShort}
pub use Rattle.ink_model.specs.Protocol.Answer.{Reply}
pub use Rattle.ink_model.specs.Protocol.Changed.{OnlyRefuses}
pub use Rattle.ink_model.specs.Protocol.Turns.{ChoosesBy, ChoosesFrom, JumpsBy, JumpsFrom, LandsFor}
pub use Rattle.ink_model.specs.Protocol.ValueJson.{value_data}
pub use Rattle.ink_model.specs.Run.Configuration.{ChoiceOf, FlowOf, Configuration, can_go_on, unnumbered_choice, unnumbered_flow}
unfoldable pub use Rattle.ink_model.specs.Run.Configuration.{settled}
pub use Rattle.ink_model.specs.Run.Effect.{Context, Fields}
pub use Rattle.ink_model.specs.Run.Entered.{flags_at}
pub use Rattle.ink_model.specs.Run.Flows.{all_flows, Game}
unfoldable pub use Rattle.ink_model.specs.Run.Place.{next_place}
pub use Rattle.ink_model.specs.Run.Step.Diverts.{landing_by}
pub use Rattle.ink_model.specs.Run.Visits.{visits_by, entering_around}
pub use Rattle.ink_model.specs.Save.Reads.{Rests, Stands, Reads, Spells}
pub use Rattle.ink_model.specs.Save.Sound.{PlaceFits, StackFits, ValueFits, ChoiceFits, FlowSound, FlowStands, FrameStands, GlobalsFit, Sound, ThreadFits, ThreadStands, ThreadsFit, RowCounts, AnyPlace, SomePlace, AsideFits, NamedFits, ChoicesFit, FrameFits, RowFits, IsFrame}
pub use Rattle.ink_model.specs.Save.Spelling.{choice_data, frame_data, global_data, kind_data, named_flow_data, part_data, place_data, place_or_null, row_data, spelling, temps_members, thread_data}
pub use Rattle.ink_model.specs.Story.Acceptance.{lands}
pub use Rattle.ink_model.specs.Story.Flags.{counts_visits, notes_turns}
pub use Rattle.ink_model.specs.Story.Leaves.{is_small}
pub use Rattle.ink_model.specs.Story.Tree.{at, StoryTree}
pub use Rattle.ink_model.specs.Text.Bytes.{fits_text}
pub use Rattle.ink_model.specs.Text.Output.{empty_page, is_line}
pub use Rattle.ink_model.specs.Values.Stack.{popped, pushed}
pub use Rattle.ink_model.specs.Values.Value.{is_true}
pub use Rattle.ink_model.specs.Variables.Rows.{place_order, row, with_row, is_before, name_order, rows_rise}
pub use Rattle.ink_model.specs.Variables.Store.{Values, store, stored}
pub use Rattle.ink_model.specs.declared.content.Destination.{Destination}
pub use Rattle.ink_model.specs.declared.content.Leaf.{Leaf}
pub use Rattle.ink_model.specs.declared.fault.Cause.{Cause}
pub use Rattle.ink_model.specs.declared.fault.Fault.{Fault}
pub use Rattle.ink_model.specs.declared.fault.Fault.TheVariants.{OutOfMemory}
pub use Rattle.ink_model.specs.declared.frame.FrameKind.{FrameKind}
pub use Rattle.ink_model.specs.declared.frame.FrameKind.TheVariants.{Function, Tunnel, Base}
pub use Rattle.ink_model.specs.declared.host.Change.{Change}
pub use Rattle.ink_model.specs.declared.host.Event.{Event}
pub use Rattle.ink_model.specs.declared.host.Given.{Given}
pub use Rattle.ink_model.specs.declared.limits.TheConstants.{MAX_COUNT}
pub use Rattle.ink_model.specs.declared.place.Part.{Part}
pub use Rattle.ink_model.specs.declared.place.Part.TheVariants.{Index, Name}
pub use Rattle.ink_model.specs.declared.place.Path.{Path}
pub use Rattle.ink_model.specs.declared.scope.Scope.TheVariants.{Global, Temporary}
pub use Rattle.ink_model.specs.declared.value.Value.{Value}
pub use Rattle.ink_model.specs.declared.version.InkVersion.{InkVersion}
pub use Rattle.ink_sound.specs.Kept.{Finds, StoryFits, ContextFits, EffectFits, FieldsFit, Gives}
pub use Rattle.serde_json.specs.Data.{Data}
pub use Rattle.serde_json.specs.Find.{of_integer}
