-- Plans of packets: tight plans, and that they have the fewest groups.
pub mod PlanGroups
pub mod PlanTests
pub mod TightPlans
