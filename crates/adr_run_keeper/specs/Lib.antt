pub mod Planned
pub mod PlanLaws
pub mod Goes
